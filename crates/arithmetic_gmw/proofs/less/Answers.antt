use Rattle.std.proofs.Common.{arith}
use Rattle.arithmetic_gmw.proofs.Sharing.{total-take_more}
use Rattle.arithmetic_gmw.proofs.less.Goals as goal

pub loop-word-preserved : goal.loop-word-preserved
loop-word-preserved c =
    let more = total-take_more c.args.words.now c.loop-word.word-index c.loop-word-test.true in
    let fits = c.type_inv.words c.loop-word.word-index in
    omega arith
