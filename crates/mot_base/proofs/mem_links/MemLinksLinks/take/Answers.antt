use Rattle.std.proofs.Common.{rules, ◌≡◌, None, ◌∙◌, ap, length}
use Rattle.std.specs.Prelude.{position}
use Rattle.mot_base.specs.Links.{IsPeer}
use Rattle.mot_base.specs.MemLinks.{is_given, bytes_by_party}
use Rattle.mot_base.proofs.Open.{end_keeps}
use Rattle.mot_base.proofs.Pieces.{moved, used_up, peer_test}
use Rattle.mot_base.proofs.mem_links.MemLinksLinks.take.Goals as goal

pub returns-in-Some-clause-peer : goal.returns-in-Some-clause-peer
returns-in-Some-clause-peer c =
    let both = moved c.count.new.self (length c.args.into.now) c.in-Some.at c.give.new.into c.give.result c.give.new.self (search rules) c.requires.room c.give.ensures.room c.give.ensures.given c.give.ensures.event c.give.ensures.links in
    rw c.count.ensures.after at both.0

pub returns-in-Some-clause-moves : goal.returns-in-Some-clause-moves
returns-in-Some-clause-moves c =
    let both = moved c.count.new.self (length c.args.into.now) c.in-Some.at c.give.new.into c.give.result c.give.new.self (search rules) c.requires.room c.give.ensures.room c.give.ensures.given c.give.ensures.event c.give.ensures.links in
    rw c.count.ensures.after at both.1

pub returns-in-None-clause-moves : goal.returns-in-None-clause-moves
returns-in-None-clause-moves c =
    let place = c.args.self.now.place in
    let pieces = c.args.self.now.pieces in
    let nowhere : position (is_given place) pieces ≡ None = search rules in
    let peer : IsPeer place c.close.result.0 = rw c.count.ensures.after at c.close.ensures.peer in
    let same : c.close.new.self.pieces ≡ pieces =
    ap (λ links. links.pieces) c.close.ensures.links
    ∙ (end_keeps c.count.new.self _ ∙ ap (λ links. links.pieces) c.count.ensures.after) in (
      λ p. ap (λ left. bytes_by_party left p) same,
      used_up place c.close.result.0 pieces (peer_test place c.close.result.0 peer) nowhere,
    )
