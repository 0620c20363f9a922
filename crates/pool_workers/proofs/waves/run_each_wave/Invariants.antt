use Rattle.std.proofs.Common.{◌≡◌, ◌<◌, length}
use Rattle.std.specs.List.{All}
use Rattle.pool_workers.specs.Shifts.{IsShift}
use Rattle.pool_workers.proofs.waves.run_each_wave.Given as goal

abbrev pub invariant-loop-wave : goal.invariant-loop-wave
invariant-loop-wave g l = record {
  many : length l.shifts.items ≡ length l.fn.shifts.items;
  below : All (λ item. item < g.L.Limit.limit) l.ready.items;
  worked : All (IsShift g.M.Meaning.edges l.pool.shared.table_id g.M.Meaning.items (λ h. g.L.Limit.limit)) l.shifts.items;
}
