use Rattle.std.proofs.Common.{◌∙◌}
use Rattle.std.specs.Int.Bits.{xor_assoc}
use Rattle.share_types.specs.Sums.{xor_to}
use Rattle.share_types.proofs.Parties.{xor_to_more}
use Rattle.boolean_gmw.specs.Sharing.{given_word}
use Rattle.boolean_gmw.proofs.own_share.Goals as goal

pub loop-to-preserved : goal.loop-to-preserved
loop-to-preserved c =
    let kept = c.loop-to.invariant in
    let given = given_word c.args.x.width c.args.tape.now c.args.me.0 in
    let more = xor_to_more c.loop-to.to given in (
      rw (c.less-own.ensures.word, kept.0, kept.1, more) (xor_assoc c.args.x.word (xor_to c.loop-to.to given) (given c.loop-to.to)),
      c.less-own.ensures.width ∙ kept.1,
    )
