use Rattle.std.proofs.Common.{◌≡◌, take}
use Rattle.share_types.specs.Bits.{number}
use Rattle.circuit_tables.proofs.values.number_of.Given as goal

abbrev pub invariant-loop-i : goal.invariant-loop-i
invariant-loop-i l = l.word ≡ number (take l.i l.bits)
