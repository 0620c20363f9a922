use Rattle.std.proofs.Common.{◌≡◌, None, replicate}
use Rattle.gate_tasks.proofs.wires.Wires.new.Given as goal

abbrev pub invariant-loop-i : goal.invariant-loop-i
invariant-loop-i g l = l.values.items ≡ replicate l._i None
