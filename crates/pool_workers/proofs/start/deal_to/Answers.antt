use Rattle.std.proofs.Common.{◌<◌, [], ◌∷◌, get_or}
use Rattle.std.proofs.lemmas.List.Elements.{All-get_or}
use Rattle.pool_workers.proofs.Pools.{items-append}
use Rattle.pool_workers.proofs.start.deal_to.Goals as goal

pub push_as-requires-clause-pushes : goal.push_as-requires-clause-pushes
push_as-requires-clause-pushes g c =
    let x = get_or c.args.items.now c.loop-at.at 0 in
    let low = All-get_or (λ item. item < g.L.Limit.limit) c.args.items.now c.loop-at.at 0 c.loop-at-test.true c.requires.below in
    λ items views all at. (tt, items-append g.L.Limit.limit items (x ∷ []) all (low, tt), (low, tt))
