use Rattle.std.proofs.Common.{◌≡◌, ◌+◌, ◌*◌}
use Rattle.share_types.specs.Sums.{each}
use Rattle.bmr_keys.specs.Hiding.{zero_key_of}
use Rattle.bmr_keys.proofs.part.zero_keys.Given as goal

abbrev pub invariant-loop-i : goal.invariant-loop-i
invariant-loop-i l =
    (l.tape.seed ≡ l.seed.0)
    × (l.tape.place ≡ 4 * (l.first + l.i))
    × (l.keys.items ≡ each l.i (λ i. record { 0 = zero_key_of l.seed.0 (l.first + i) }))
