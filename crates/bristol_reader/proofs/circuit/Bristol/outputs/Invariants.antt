use Rattle.bristol_reader.proofs.TableLemmas.{OutputsTo}
use Rattle.bristol_reader.proofs.circuit.Bristol.outputs.Given as goal

abbrev pub invariant-loop-at : goal.invariant-loop-at
invariant-loop-at l = OutputsTo l.self.outputs l.table l.at-counter
