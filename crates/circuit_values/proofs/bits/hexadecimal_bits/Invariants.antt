use Rattle.std.specs.Str.Parse.{digits_value}
use Rattle.circuit_tables.proofs.BitLists.{HasDigits}
use Rattle.circuit_values.proofs.bits.hexadecimal_bits.Given as goal

abbrev pub invariant-loop-i : goal.invariant-loop-i
invariant-loop-i l = HasDigits l.out.items l.digits l.i (digits_value 16 l.digits)
