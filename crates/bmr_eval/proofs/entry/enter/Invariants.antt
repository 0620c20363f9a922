use Rattle.std.proofs.Common.{◌≡◌}
use Rattle.share_types.specs.Sums.{each}
use Rattle.share_types.specs.Keys.{◌⊕◌, bit, times, key_at}
use Rattle.bmr_eval.proofs.entry.enter.Given as goal

abbrev pub invariant-loop-i : goal.invariant-loop-i
invariant-loop-i l =
    l.keys.items ≡ each l.i (λ i. record { 0 = key_at l.zero_keys i ⊕ times (bit l.masked.word i) l.offset.0 })
