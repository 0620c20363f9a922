use Rattle.bristol_reader.proofs.WriteLemmas.{WrittenTo}
use Rattle.bristol_reader.proofs.write.write_bristol.Given as goal

abbrev pub invariant-loop-at : goal.invariant-loop-at
invariant-loop-at l = WrittenTo l.circuit l.out.items l.at
