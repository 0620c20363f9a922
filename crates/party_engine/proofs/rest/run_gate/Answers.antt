use Rattle.std.proofs.Common.{◌∙◌, ap, arith, rules}
use Rattle.plan_gates.specs.Messages.{stages}
use Rattle.party_stages.specs.Following.{Side, me_of}
use Rattle.party_engine.proofs.Resting.{done_now, below_next}
use Rattle.party_engine.proofs.rest.run_gate.Goals as goal

pub loop-stage-preserved : goal.loop-stage-preserved
loop-stage-preserved g c =
    let far = c.loop-stage.invariant in
    record {
      on = c.in-Ok.ensures.on c.loop-stage._stage far.on;
      below = c.in-Ok.ensures.below;
      scene = c.in-Ok.ensures.scene;
      said = λ before had. c.in-Ok.ensures.said before (far.said before had);
      left = search rules;
      closed = λ p. c.run_next.ensures.closed p ∙ far.closed p;
      place = c.run_next.ensures.place ∙ far.place;
      never_falls = omega (arith, c.run_next.ensures.never_falls, far.never_falls);
    }

pub returns-clause-below : goal.returns-clause-below
returns-clause-below g c =
    let b = c.args.brought.now in
    let far = c.loop-stage.invariant in
    let count = ap (λ (s : Side). stages s.plan (me_of s) c.args.gate) c.brought.view_is in
    let value = done_now b c.args.inbox.now c.loop-stage.stages c.args.gate far.scene c.requires.gate
    (λ task there none. (let so = far.on task there none in omega (arith, so, c.loop-stage-test.false, c.stages-stage-end.ensures, count))) in
    below_next c.loop-stage.stages c.args.gate far.below value
