use Rattle.std.proofs.Common.{[], ◌∷◌}
use Rattle.pool_workers.proofs.Pools.{items-append}
use Rattle.pool_workers.proofs.deque.BenchHints.put.Goals as goal

pub push_as-requires-clause-pushes : goal.push_as-requires-clause-pushes
push_as-requires-clause-pushes g c = λ items views all at. (tt, items-append g.L.Limit.limit items (c.args.item ∷ []) all (c.requires, tt), (c.requires, tt))
