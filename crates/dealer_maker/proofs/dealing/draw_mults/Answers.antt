use Rattle.std.proofs.Common.{arith}
use Rattle.dealer_maker.specs.Draws.{mult_drawn, mult_words}
use Rattle.dealer_maker.proofs.Records.{rows-more}
use Rattle.dealer_maker.proofs.dealing.draw_mults.Goals as goal

pub loop-at-preserved : goal.loop-at-preserved
loop-at-preserved c =
    let place = c.loop-at.invariant.0 in
    let n = c.from-n.ensures in (
      rw n (omega arith),
      rw c.in_ok-push.ensures.items
          (rows-more (mult_drawn c.args.draws.now.seed c.args.seat.now.parties c.args.seat.now.party) c.args.from (mult_words c.args.seat.now.parties) c.loop-at._at c.loop-at.place
          c.loop-at.list.items c.mult.result place c.loop-at.invariant.1 c.mult.ensures),
    )
