use Rattle.circuit_tables.proofs.CutLemmas.{IsSummedTo}
use Rattle.circuit_tables.proofs.cut.asked_width.Given as goal

abbrev pub invariant-loop-at : goal.invariant-loop-at
invariant-loop-at l = IsSummedTo l.party l.table l.sum l.at
