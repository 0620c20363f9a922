use Rattle.party_engine.proofs.Kept.{begun_so}
use Rattle.party_engine.proofs.turn.run_turns.Goals as goal

pub returns-in-Err-clause-begun : goal.returns-in-Err-clause-begun
returns-in-Err-clause-begun g c = λ before said.
    begun_so c.args.brought.now c.args.inbox.now c.loop-turn.stages before (g.L.Links.sent c.loop-turn.links) c.loop-turn.invariant.scene (c.loop-turn.invariant.said before said)

pub returns-in-Err-run_ready-clause-begun : goal.returns-in-Err-run_ready-clause-begun
returns-in-Err-run_ready-clause-begun g c = λ before said.
    begun_so c.args.brought.now c.args.inbox.now c.loop-turn.stages before (g.L.Links.sent c.loop-turn.links) c.loop-turn.invariant.scene (c.loop-turn.invariant.said before said)

pub returns-in-Err-take_all-clause-begun : goal.returns-in-Err-take_all-clause-begun
returns-in-Err-take_all-clause-begun g c = λ before said. c.in-Err-take_all.ensures.begun before (c.loop-turn.invariant.said before said)
