use Rattle.party_engine.proofs.Kept.{begun_so}
use Rattle.party_engine.proofs.Resting.{ready_is}
use Rattle.party_engine.proofs.rest.run_next.Goals as goal

pub run_one-requires-clause-ready : goal.run_one-requires-clause-ready
run_one-requires-clause-ready g c =
    ready_is c.args.brought.now c.args.inbox.now c.requires.come c.args.stages.now c.args.gate c.requires.scene c.requires.below c.requires.gate c.requires.open

pub returns-in-Err-clause-begun : goal.returns-in-Err-clause-begun
returns-in-Err-clause-begun g c = λ before said.
    begun_so c.args.brought.now c.args.inbox.now c.args.stages.now before (g.L.Links.sent c.args.links.now) c.requires.scene said
