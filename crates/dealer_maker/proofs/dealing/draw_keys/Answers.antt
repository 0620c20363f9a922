use Rattle.std.proofs.Common.{arith}
use Rattle.dealer_maker.specs.Draws.{key_drawn, key_words}
use Rattle.dealer_maker.proofs.Drawing.{stands-inside}
use Rattle.dealer_maker.proofs.Records.{rows-more}
use Rattle.dealer_maker.proofs.dealing.draw_keys.Goals as goal

pub loop-at-preserved : goal.loop-at-preserved
loop-at-preserved c =
    let place = c.loop-at.invariant.0 in
    let n = c.from-n.ensures in (
      rw n (omega arith),
      rw c.in_ok-push.ensures.items
          (rows-more (key_drawn c.args.draws.now.seed c.args.seat.now.parties c.args.seat.now.party) c.args.from (key_words c.args.seat.now.parties) c.loop-at._at c.loop-at.place
          c.loop-at.list.items c.in_ok-key.field-0 place c.loop-at.invariant.1 c.in_ok-key.ensures),
    )

pub overflow_add-place : goal.overflow_add-place
overflow_add-place c =
    let inside = stands-inside c.args.from (key_words c.args.seat.now.parties) c.loop-at._at c.args.count c.args.draws.now.count c.loop-at-test.true c.requires.inside in
    let place = c.loop-at.invariant.0 in
    let count = c.count-count.ensures in
    let fits = c.count-count.type_inv in
    rw c.from-n.ensures (omega arith)
