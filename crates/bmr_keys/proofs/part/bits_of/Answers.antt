use Rattle.std.proofs.Common.{◌∙◌, rules}
use Rattle.bmr_keys.proofs.KeyLists.{bits_more}
use Rattle.bmr_keys.proofs.part.bits_of.Goals as goal

pub loop-i-preserved : goal.loop-i-preserved
loop-i-preserved c =
    let kept = c.loop-i.invariant in (
      c.with_bit-word.ensures.word
          ∙ bits_more c.args.part.now c.loop-i.i c.loop-i.word c.index-part-i.result (search rules) kept.0,
      c.with_bit-word.ensures.below,
    )
