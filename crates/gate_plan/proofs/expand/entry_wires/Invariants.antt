use Rattle.std.proofs.Common.{◌≡◌}
use Rattle.share_types.specs.Sums.{each}
use Rattle.gate_plan.specs.Bristol.{entry_wire}
use Rattle.gate_plan.proofs.expand.entry_wires.Given as goal

abbrev pub invariant-loop-wire : goal.invariant-loop-wire
invariant-loop-wire l = l.wires.items ≡ each l.wire (entry_wire l.keys)
