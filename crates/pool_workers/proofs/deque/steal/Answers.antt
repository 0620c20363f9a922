use Rattle.pool_workers.proofs.Pools.{items-split}
use Rattle.pool_workers.proofs.deque.steal.Goals as goal

pub steal_as-requires-clause-takes : goal.steal_as-requires-clause-takes
steal_as-requires-clause-takes g c = λ xs items views some few all at. let r = items-split g.L.Limit.limit xs items all in (tt, r.1, r.0)
