use Rattle.local_run.proofs.Bounds.{edges_few}
use Rattle.local_run.proofs.laws.edges_are_few.Goals as goal

pub returns : goal.returns
returns c = edges_few
