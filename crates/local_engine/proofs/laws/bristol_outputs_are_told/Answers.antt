use Rattle.local_engine.proofs.Told.{bristol_outputs_are_told}
use Rattle.local_engine.proofs.laws.bristol_outputs_are_told.Goals as goal

pub returns : goal.returns
returns c = bristol_outputs_are_told
