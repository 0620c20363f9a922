use Rattle.std.proofs.Common.{◌≡◌, ◌*◌, ◌%◌, ◌^◌}
use Rattle.share_types.specs.Sums.{sum_to}
use Rattle.share_types.specs.Keys.{bit}
use Rattle.share_convert.specs.Convert.{shared_bit_at, turned_word}
use Rattle.share_convert.proofs.b_to_a_close.Given as goal

abbrev pub invariant-loop-i : goal.invariant-loop-i
invariant-loop-i l =
    l.sum ≡ sum_to l.i (λ i. 2 ^ i * turned_word (bit l.v.word i) (shared_bit_at l.stock i).word) % 2 ^ 64
