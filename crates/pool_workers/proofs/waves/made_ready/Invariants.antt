use Rattle.std.proofs.Common.{◌<◌}
use Rattle.std.specs.List.{All}
use Rattle.pool_workers.proofs.waves.made_ready.Given as goal

abbrev pub invariant-loop-shift : goal.invariant-loop-shift
invariant-loop-shift g l = All (λ item. item < g.L.Limit.limit) l.ready.items
