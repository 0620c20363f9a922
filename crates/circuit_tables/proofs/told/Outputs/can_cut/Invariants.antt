use Rattle.std.proofs.Common.{◌≡◌, ◌+◌, take}
use Rattle.std.specs.List.{sum_by}
use Rattle.circuit_tables.specs.Table.{asked, total_width}
use Rattle.circuit_tables.proofs.told.Outputs.can_cut.Given as goal

abbrev pub invariant-loop-vector : goal.invariant-loop-vector
invariant-loop-vector l = l.left + sum_by (λ v. v.width) (take l.vector-index l.told) ≡ total_width (asked l.fn.party l.table)
