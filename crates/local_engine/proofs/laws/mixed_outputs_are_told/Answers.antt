use Rattle.local_engine.proofs.Told.{mixed_outputs_are_told}
use Rattle.local_engine.proofs.laws.mixed_outputs_are_told.Goals as goal

pub returns : goal.returns
returns c = mixed_outputs_are_told
