use Rattle.std.proofs.Common.{◌≡◌, ◌+◌, length}
use Rattle.std.specs.List.{All}
use Rattle.pool_workers.specs.Shifts.{IsShift}
use Rattle.pool_workers.proofs.shift.hire_all.Given as goal

abbrev pub invariant-loop-end : goal.invariant-loop-end
invariant-loop-end g l = record {
  table : l.caller.table_id ≡ l.fn.caller.table_id;
  free : l.caller.me.1 ≡ l.fn.caller.me.1;
  parts : l.caller.me.0.parts + length l.shifts.items ≡ l.fn.caller.me.0.parts;
  took : l.caller.me.0.took ≡ l.fn.caller.me.0.took;
  gave : l.caller.me.0.gave ≡ l.fn.caller.me.0.gave;
  over : length l.shifts.items + length l.hints.items ≡ length l.fn.hints.items;
  hints : All (λ h. g.H.Hints.bound h ≡ g.M.Meaning.items) l.hints.items;
  worked : All (IsShift g.M.Meaning.edges l.pool.shared.table_id g.M.Meaning.items g.H.Hints.bound) l.shifts.items;
}

abbrev pub decreases-loop-end : goal.decreases-loop-end
decreases-loop-end g l = length l.hints.items
