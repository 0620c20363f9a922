use Rattle.bristol_reader.proofs.ReadCircuitLemmas.{reads_circuit}
use Rattle.bristol_reader.proofs.read.each_read_is_circuit.Goals as goal

pub returns : goal.returns
returns c = reads_circuit
