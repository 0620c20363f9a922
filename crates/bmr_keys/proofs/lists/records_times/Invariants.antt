use Rattle.std.proofs.Common.{◌≡◌, take}
use Rattle.std.specs.List.{flat_map}
use Rattle.bmr_keys.proofs.lists.records_times.Given as goal

abbrev pub invariant-loop-key_bit : goal.invariant-loop-key_bit
invariant-loop-key_bit l = l.keys.items ≡ flat_map (λ key_bit. key_bit.times) (take l.key_bit-index l.stock)
