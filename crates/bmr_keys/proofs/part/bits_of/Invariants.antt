use Rattle.std.proofs.Common.{◌≡◌, ◌<◌, ◌^◌, get_or, false, []}
use Rattle.share_types.specs.Bits.{number}
use Rattle.share_types.specs.Sums.{each}
use Rattle.bmr_keys.proofs.part.bits_of.Given as goal

abbrev pub invariant-loop-i : goal.invariant-loop-i
invariant-loop-i l =
    (l.word ≡ number (each l.i (λ i. (get_or l.part i (record { bit = false; times = [] })).bit)))
    × (l.word < 2 ^ l.i)
