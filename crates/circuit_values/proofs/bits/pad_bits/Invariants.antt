use Rattle.std.proofs.Common.{◌≡◌, ◌≤◌, ◌-◌, length}
use Rattle.share_types.specs.Bits.{number}
use Rattle.circuit_values.proofs.bits.pad_bits.Given as goal

abbrev pub invariant-loop-bits : goal.invariant-loop-bits
invariant-loop-bits l = (number l.bits.items ≡ number l.initial.bits.items) × (length l.bits.items ≤ l.width)

abbrev pub decreases-loop-bits : goal.decreases-loop-bits
decreases-loop-bits l = l.width - length l.bits.items
