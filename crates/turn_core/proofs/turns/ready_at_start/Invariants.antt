use Rattle.turn_core.proofs.Fresh.{IsQueueTo}
use Rattle.turn_core.proofs.turns.ready_at_start.Given as goal

abbrev pub invariant-loop-item : goal.invariant-loop-item
invariant-loop-item l = IsQueueTo l.missing l.queue.items l.len l.item
