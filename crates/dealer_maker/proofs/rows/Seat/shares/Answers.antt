use Rattle.std.proofs.Common.{sym, arith}
use Rattle.std.proofs.lemmas.List.FromFn.{map-range_with_len_more}
use Rattle.dealer_maker.specs.Draws.{share_drawn}
use Rattle.dealer_maker.proofs.rows.Seat.shares.Goals as goal

pub loop-owner-preserved : goal.loop-owner-preserved
loop-owner-preserved c =
    let place = c.loop-owner.invariant.0 in
    let step = c.from-step.ensures in
    let drawn = share_drawn c.args.draws.now.seed c.args.self.now.parties c.args.self.now.party c.args.from in
    let more = map-range_with_len_more drawn 0 c.loop-owner.owner c.loop-owner.owner (omega arith) in (
      rw step (omega arith),
      rw (c.in_ok-push.ensures.items, c.share.ensures, c.loop-owner.invariant.1) (sym more),
    )
