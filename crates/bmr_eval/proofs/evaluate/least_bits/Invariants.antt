use Rattle.std.proofs.Common.{◌≡◌, ◌<◌, ◌*◌, ◌^◌}
use Rattle.share_types.specs.Bits.{number}
use Rattle.share_types.specs.Sums.{each}
use Rattle.share_types.specs.Keys.{bit, key_at}
use Rattle.bmr_eval.proofs.evaluate.least_bits.Given as goal

abbrev pub invariant-loop-i : goal.invariant-loop-i
invariant-loop-i l = (l.word ≡ number (each l.i (λ i. bit (key_at l.keys (i * l.owners)) 0))) × (l.word < 2 ^ l.i)
