use Rattle.mixed_language.proofs.TableLemmas.{OutputsTo}
use Rattle.mixed_language.proofs.circuit.Mixed.outputs.Given as goal

abbrev pub invariant-loop-at : goal.invariant-loop-at
invariant-loop-at l = OutputsTo l.self.statements l.table l.at
