use Rattle.std.proofs.Common.{◌≡◌, ℕ, ◌+◌, ◌<◌, ◌≤◌}
use Rattle.pool_workers.specs.Sums.{times}
use Rattle.pool_workers.specs.Words.{all_parts}
use Rattle.pool_workers.specs.Steps.{IsIdle}
use Rattle.pool_workers.proofs.shift.finish.Given as goal

abbrev pub invariant-loop-item : goal.invariant-loop-item
invariant-loop-item g l = record {
  table : l.worker.table_id ≡ l.fn.worker.table_id;
  idle : IsIdle g.M.Meaning.edges l.worker.me;
  parts : l.worker.me.0.parts ≡ all_parts;
  all : (x : ℕ) → x < l.item → 1 ≤ times x l.worker.me.0.took;
  ran : (x : ℕ) → times x l.ran.items + times x l.fn.worker.me.0.took ≡ times x l.fn.ran.items + times x l.worker.me.0.took;
}
