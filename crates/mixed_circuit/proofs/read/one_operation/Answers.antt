use Rattle.mixed_circuit.proofs.ApartLemmas.{one_line_one_operation}
use Rattle.mixed_circuit.proofs.read.one_operation.Goals as goal

pub returns : goal.returns
returns c = one_line_one_operation
