use Rattle.std.proofs.Common.{sym}
use Rattle.dealer_maker.proofs.Drawing.{xor-none, xor-more}
use Rattle.dealer_maker.proofs.draws.Draws.xor.Goals as goal

pub loop-at-init : goal.loop-at-init
loop-at-init c = sym (xor-none c.args.self.now.seed c.args.from)

pub loop-at-preserved : goal.loop-at-preserved
loop-at-preserved c =
    rw (c.loop-at.invariant, c.word-xor.ensures, c.from.ensures) (xor-more c.args.self.now.seed c.args.from c.loop-at.at)
