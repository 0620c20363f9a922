use Rattle.std.proofs.Common.{◌≡◌, length}
use Rattle.std.specs.List.{All}
use Rattle.crossbeam_deque.specs.Handles.{worker_flavor}
use Rattle.pool_workers.proofs.start.deal_all.Given as goal

abbrev pub invariant-loop-me : goal.invariant-loop-me
invariant-loop-me g l = record {
  many : length l.owns.items ≡ l.me;
  fifo : All (λ own. worker_flavor own ≡ 0) l.owns.items;
}
