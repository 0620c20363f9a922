use Rattle.circuit_tables.proofs.CutLemmas.{IsCutTo}
use Rattle.circuit_tables.proofs.told.Outputs.cut.Given as goal

abbrev pub invariant-loop-at : goal.invariant-loop-at
invariant-loop-at l = IsCutTo l.party l.table l.bits.items l.outputs l.taken l.at
