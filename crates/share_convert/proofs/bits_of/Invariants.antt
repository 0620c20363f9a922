use Rattle.std.proofs.Common.{◌≡◌, ◌<◌, ◌^◌}
use Rattle.share_types.specs.Bits.{number}
use Rattle.share_types.specs.Sums.{each}
use Rattle.share_convert.specs.Convert.{shared_bit_at}
use Rattle.share_convert.proofs.bits_of.Given as goal

abbrev pub invariant-loop-i : goal.invariant-loop-i
invariant-loop-i l = (l.word ≡ number (each l.i (λ i. (shared_bit_at l.stock i).bit))) × (l.word < 2 ^ l.i)
