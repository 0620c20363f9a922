use Rattle.bristol_reader.proofs.TableLemmas.{InputsTo}
use Rattle.bristol_reader.proofs.circuit.Bristol.inputs.Given as goal

abbrev pub invariant-loop-at : goal.invariant-loop-at
invariant-loop-at l = InputsTo l.parties l.self.inputs l.table l.at-counter
