use Rattle.std.proofs.Common.{◌≡◌, ◌≤◌, ◌*◌, ◌^◌}
use Rattle.gate_plan.specs.Lowering.{gates_before}
use Rattle.gate_plan.proofs.lower.lowered_gates.Given as goal

abbrev pub invariant-loop-at : goal.invariant-loop-at
invariant-loop-at l =
    (l.gates ≡ gates_before l.circuit.parties l.circuit.statements l.at) × (l.gates ≤ l.at * 2 ^ 14)
