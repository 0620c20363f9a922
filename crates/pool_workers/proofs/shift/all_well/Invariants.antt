use Rattle.std.proofs.Common.{◌≡◌, ◌+◌, length}
use Rattle.std.specs.Prelude.{IfOk}
use Rattle.std.specs.List.{All}
use Rattle.pool_workers.specs.Shifts.{IsShift}
use Rattle.pool_workers.proofs.shift.all_well.Given as goal

abbrev pub invariant-loop-result : goal.invariant-loop-result
invariant-loop-result g l = record {
  over : length l.shifts.items + length l.results.items ≡ length l.fn.results.items;
  results : All (λ r. IfOk r (IsShift g.M.Meaning.edges l._pool.shared.table_id g.M.Meaning.items g.H.Hints.bound)) l.results.items;
  worked : All (IsShift g.M.Meaning.edges l._pool.shared.table_id g.M.Meaning.items g.H.Hints.bound) l.shifts.items;
}

abbrev pub decreases-loop-result : goal.decreases-loop-result
decreases-loop-result g l = length l.results.items
