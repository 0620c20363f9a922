use Rattle.mixed_language.proofs.TableLemmas.{InputsTo}
use Rattle.mixed_language.proofs.circuit.Mixed.inputs.Given as goal

abbrev pub invariant-loop-at : goal.invariant-loop-at
invariant-loop-at l = InputsTo l.self.statements l.table l.at
