use Rattle.std.proofs.Common.{◌≡◌, take}
use Rattle.circuit_tables.specs.Table.{joined_bits}
use Rattle.circuit_tables.proofs.cut.joined.Given as goal

abbrev pub invariant-loop-vector : goal.invariant-loop-vector
invariant-loop-vector l = l.bits.items ≡ joined_bits (take l.vector-index l.vectors)
