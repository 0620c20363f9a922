use Rattle.std.proofs.Common.{◌≡◌}
use Rattle.share_types.specs.Sums.{each}
use Rattle.bmr_keys.specs.Payload.{key_in}
use Rattle.bmr_keys.proofs.payload.keys_in.Given as goal

abbrev pub invariant-loop-k : goal.invariant-loop-k
invariant-loop-k l = l.keys.items ≡ each l.k (λ k. record { 0 = key_in l.payload k })
