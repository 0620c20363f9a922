use Rattle.std.proofs.Common.{◌≡◌}
use Rattle.pool_workers.specs.Shifts.{HasWorked}
use Rattle.pool_workers.proofs.shift.run_hinted.Given as goal

abbrev pub invariant-loop-turn : goal.invariant-loop-turn
invariant-loop-turn g l = HasWorked g.M.Meaning.edges l.pool.shared.table_id l.worker l.ran.items × (g.H.Hints.bound l.hints ≡ g.M.Meaning.items)
