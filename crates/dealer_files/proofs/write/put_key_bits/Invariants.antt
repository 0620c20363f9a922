use Rattle.std.proofs.Common.{◌≡◌, ◌++◌, take}
use Rattle.std.specs.List.{flat_map}
use Rattle.dealer_files.specs.File.{key_bit_bytes}
use Rattle.dealer_files.proofs.write.put_key_bits.Given as goal

abbrev pub invariant-loop-bit : goal.invariant-loop-bit
invariant-loop-bit l = l.out.items ≡ l.initial.out.items ++ flat_map key_bit_bytes (take l.bit-index l.bits)
