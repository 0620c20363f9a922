use Rattle.crossbeam_deque.specs.Handles.{IsPassOf, stealer_deque}
use Rattle.pool_workers.proofs.deque.steal.Given as goal

abbrev pub invariant-loop-turn : goal.invariant-loop-turn
invariant-loop-turn g l = IsPassOf (stealer_deque l.thief) l.pass
