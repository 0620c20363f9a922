use Rattle.std.proofs.Common.{ℕ, ◌+◌, ◌*◌, ◌^◌, ◌∙◌, ap, sym, add-one}
use Rattle.share_types.specs.Bits.{once, number}
use Rattle.share_types.specs.Sums.{each}
use Rattle.bmr_keys.proofs.Labels.{number-each_more}
use Rattle.share_convert.specs.Convert.{shared_bit_at}
use Rattle.share_convert.proofs.bits_of.Goals as goal

pub loop-i-preserved : goal.loop-i-preserved
loop-i-preserved c =
    let i = c.loop-i.i in
    let f = λ (k : ℕ). (shared_bit_at c.args.stock.now k).bit in (
      c.with_bit-word.ensures.word
          ∙ (ap (λ m. m + 2 ^ i * once (f i)) c.loop-i.invariant.0
          ∙ (sym (number-each_more i f) ∙ ap (λ k. number (each k f)) (sym (add-one i)))),
      c.with_bit-word.ensures.below,
    )
