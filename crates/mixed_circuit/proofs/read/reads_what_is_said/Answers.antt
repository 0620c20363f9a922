use Rattle.mixed_circuit.proofs.SaysLemmas.{reads_what_is_said}
use Rattle.mixed_circuit.proofs.read.reads_what_is_said.Goals as goal

pub returns : goal.returns
returns c = reads_what_is_said
