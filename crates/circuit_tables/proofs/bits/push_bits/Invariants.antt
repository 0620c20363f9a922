use Rattle.std.proofs.Common.{◌≡◌, ◌++◌}
use Rattle.share_types.specs.Bits.{bits}
use Rattle.circuit_tables.proofs.bits.push_bits.Given as goal

abbrev pub invariant-loop-i : goal.invariant-loop-i
invariant-loop-i l = l.out.items ≡ l.initial.out.items ++ bits l.i l.word
