use Rattle.pool_workers.proofs.Pools.{items-split}
use Rattle.pool_workers.proofs.deque.BenchHints.next.Goals as goal

pub pop_as-requires-clause-fifo : goal.pop_as-requires-clause-fifo
pop_as-requires-clause-fifo g c = λ fifo xs items views some few all at. let r = items-split g.L.Limit.limit xs items all in (tt, r.1, r.0)
