use Rattle.std.proofs.Common.{◌≡◌, take}
use Rattle.std.specs.List.{flat_map}
use Rattle.bristol_reader.proofs.evaluate.given_bits.Given as goal

abbrev pub invariant-loop-input : goal.invariant-loop-input
invariant-loop-input l = l.bits.items ≡ flat_map (λ v. v) (take l.input l.values)
