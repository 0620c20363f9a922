use Rattle.std.proofs.Common.{sym}
use Rattle.dealer_maker.proofs.Drawing.{key_xor-none, key_xor-more}
use Rattle.dealer_maker.proofs.draws.Draws.key_xor.Goals as goal

pub loop-at-init : goal.loop-at-init
loop-at-init c = sym (key_xor-none c.args.self.now.seed c.args.from)

pub loop-at-preserved : goal.loop-at-preserved
loop-at-preserved c =
    rw (c.loop-at.invariant, c.key-xor.ensures, c.from.ensures) (key_xor-more c.args.self.now.seed c.args.from c.loop-at.at)
