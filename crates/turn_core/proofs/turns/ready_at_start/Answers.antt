use Rattle.std.proofs.Common.{arith}
use Rattle.turn_core.proofs.Fresh.{queue-one}
use Rattle.turn_core.proofs.turns.ready_at_start.Goals as goal

pub loop-item-preserved : goal.loop-item-preserved
loop-item-preserved c =
    queue-one c.args.missing.now c.loop-item.queue.items c.loop-item.len c.loop-item.item (omega (arith, c.loop-item-test.true)) (omega (arith, c.if-count-gt0.false)) c.loop-item.invariant
