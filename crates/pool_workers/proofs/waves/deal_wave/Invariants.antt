use Rattle.std.proofs.Common.{◌≡◌, ◌+◌, length}
use Rattle.std.specs.List.{All}
use Rattle.pool_workers.specs.Shifts.{IsShift}
use Rattle.pool_workers.proofs.waves.deal_wave.Given as goal

abbrev pub invariant-loop-shift : goal.invariant-loop-shift
invariant-loop-shift g l = record {
  over : length l.busy.items + length l.idle.items + length l.shifts.items ≡ length l.fn.shifts.items;
  many : l.workers ≡ length l.fn.shifts.items;
  waiting : All (IsShift g.M.Meaning.edges l._pool.shared.table_id g.M.Meaning.items (λ h. g.L.Limit.limit)) l.shifts.items;
  busy : All (IsShift g.M.Meaning.edges l._pool.shared.table_id g.M.Meaning.items (λ h. g.L.Limit.limit)) l.busy.items;
  idle : All (IsShift g.M.Meaning.edges l._pool.shared.table_id g.M.Meaning.items (λ h. g.L.Limit.limit)) l.idle.items;
}

abbrev pub decreases-loop-shift : goal.decreases-loop-shift
decreases-loop-shift g l = length l.shifts.items
