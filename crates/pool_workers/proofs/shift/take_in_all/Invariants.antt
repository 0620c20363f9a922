use Rattle.std.proofs.Common.{◌≡◌, ℕ, ◌+◌, length}
use Rattle.std.specs.List.{All}
use Rattle.pool_workers.specs.Sums.{times, times_in}
use Rattle.pool_workers.specs.Steps.{IsIdle}
use Rattle.pool_workers.specs.Shifts.{IsShift, lists}
use Rattle.pool_workers.proofs.shift.take_in_all.Given as goal

abbrev pub invariant-loop-shift : goal.invariant-loop-shift
invariant-loop-shift g l = record {
  table : l.caller.table_id ≡ l.fn.caller.table_id;
  idle : IsIdle g.M.Meaning.edges l.caller.me;
  parts : l.caller.me.0.parts ≡ l.fn.caller.me.0.parts + length l.rows.items;
  over : length l.rows.items + length l.shifts.items ≡ length l.fn.shifts.items;
  worked : All (IsShift g.M.Meaning.edges l.pool.shared.table_id g.M.Meaning.items g.H.Hints.bound) l.shifts.items;
  ran : (x : ℕ) → times_in x (lists l.rows.items) ≡ times x l.caller.me.0.took;
}

abbrev pub decreases-loop-shift : goal.decreases-loop-shift
decreases-loop-shift g l = length l.shifts.items
