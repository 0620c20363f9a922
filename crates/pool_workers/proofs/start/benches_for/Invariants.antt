use Rattle.std.proofs.Common.{◌≡◌, ◌+◌, length}
use Rattle.std.specs.List.{All}
use Rattle.crossbeam_deque.specs.Handles.{worker_flavor}
use Rattle.pool_workers.proofs.start.benches_for.Given as goal

abbrev pub invariant-loop-own : goal.invariant-loop-own
invariant-loop-own g l = record {
  over : length l.benches.items + length l.owns.items ≡ length l.fn.owns.items;
  fifo : All (λ own. worker_flavor own ≡ 0) l.owns.items;
}

abbrev pub decreases-loop-own : goal.decreases-loop-own
decreases-loop-own g l = length l.owns.items
