use Rattle.std.proofs.Common.{sym, ◌∙◌}
use Rattle.std.proofs.lemmas.List.Quantifiers.{position-Some}
use Rattle.mot_base.specs.MemLinks.{is_open, all_parties, no_party}
use Rattle.mot_base.proofs.Open.{some_is_open}
use Rattle.mot_base.proofs.mem_links.least_open.Goals as goal

pub unreachable-requires : goal.unreachable-requires
unreachable-requires c =
    some_is_open c.args.place c.args.closed.now c.requires.open c.requires.most
    (rw c.as_slice.ensures at (sym c.first_open.ensures ∙ c.in-None.is))

pub returns-clause-open : goal.returns-clause-open
returns-clause-open c =
    (position-Some (is_open c.args.place c.args.closed.now) all_parties c.in-Some.at no_party
    (rw c.as_slice.ensures at (sym c.first_open.ensures ∙ c.in-Some.is))).1
