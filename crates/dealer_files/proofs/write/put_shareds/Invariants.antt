use Rattle.std.proofs.Common.{◌≡◌, ◌++◌, take}
use Rattle.std.specs.List.{flat_map}
use Rattle.dealer_files.specs.File.{shared_bytes}
use Rattle.dealer_files.proofs.write.put_shareds.Given as goal

abbrev pub invariant-loop-bit : goal.invariant-loop-bit
invariant-loop-bit l = l.out.items ≡ l.initial.out.items ++ flat_map shared_bytes (take l.bit-index l.bits)
