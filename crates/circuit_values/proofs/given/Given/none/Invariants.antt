use Rattle.std.proofs.Common.{◌≡◌, replicate, None}
use Rattle.circuit_values.proofs.given.Given.none.Given as goal

abbrev pub invariant-loop-i : goal.invariant-loop-i
invariant-loop-i l = l.bits.items ≡ replicate l._i None
