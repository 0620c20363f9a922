use Rattle.std.proofs.Common.{◌∙◌, arith, rules}
use Rattle.std.proofs.lemmas.List.Elements.{All-rest}
use Rattle.party_stages.specs.Following.{IsRan}
use Rattle.party_engine.proofs.turn.take_all.Goals as goal

pub loop-ran-preserved : goal.loop-ran-preserved
loop-ran-preserved g c =
    let far = c.loop-ran.invariant in
    record {
      rest = All-rest (IsRan c.args.brought.now c.args.inbox.now) c.in-Some.ran c.next.new.self.rest.items c.loop-ran.ran-iterator.rest.items c.in-Some.ensures.steps.0 far.rest;
      scene = c.in-Ok.ensures.scene;
      said = λ before had. c.in-Ok.ensures.said before (far.said before had);
      left = search rules;
      closed = λ p. c.take_ran.ensures.closed p ∙ far.closed p;
      place = c.take_ran.ensures.place ∙ far.place;
      never_falls = omega (arith, c.take_ran.ensures.never_falls, far.never_falls);
    }
