use Rattle.local_run.proofs.Told.{told_bits_are_those_of_outputs}
use Rattle.local_run.proofs.laws.told_bits_are_those_of_outputs.Goals as goal

pub returns : goal.returns
returns c = told_bits_are_those_of_outputs
