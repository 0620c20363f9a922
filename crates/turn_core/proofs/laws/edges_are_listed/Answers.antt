use Rattle.turn_core.proofs.Listed.{edges_listed}
use Rattle.turn_core.proofs.laws.edges_are_listed.Goals as goal

pub returns : goal.returns
returns c = edges_listed
