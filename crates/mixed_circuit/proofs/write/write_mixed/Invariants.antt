use Rattle.mixed_circuit.proofs.WriteLemmas.{WrittenTo}
use Rattle.mixed_circuit.proofs.write.write_mixed.Given as goal

abbrev pub invariant-loop-at : goal.invariant-loop-at
invariant-loop-at l = WrittenTo l.circuit l.out.items l.at
