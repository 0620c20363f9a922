use Rattle.pool_workers.proofs.Starts.{forward_of}
use Rattle.pool_workers.proofs.start.leads_forward.Goals as goal

pub returns : goal.returns
returns c = forward_of c.args.dag.now c.items-items.ensures.sound c.requires
