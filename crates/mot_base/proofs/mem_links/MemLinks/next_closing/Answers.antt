use Rattle.std.proofs.Common.{rules, ◌≡◌, Some}
use Rattle.std.specs.Prelude.{position}
use Rattle.std.proofs.lemmas.List.Quantifiers.{position-Some}
use Rattle.mot_base.specs.MemLinks.{is_open}
use Rattle.mot_base.proofs.mem_links.MemLinks.next_closing.Goals as goal

pub returns-in-Some-clause-open : goal.returns-in-Some-clause-open
returns-in-Some-clause-open c =
    let links = c.args.self.now in
    let found : position (is_open links.place links.closed) links.closing ≡ Some c.in-Some.at = search rules in
    let stands = position-Some (is_open links.place links.closed) links.closing c.in-Some.at c.remove.result found in
    search rules
