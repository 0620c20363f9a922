use Rattle.std.proofs.Common.{◌≡◌, ◌≤◌, ◌*◌, ◌^◌}
use Rattle.gate_plan.specs.Bristol.{bristol_gates_before}
use Rattle.gate_plan.proofs.bristol.gates_of_gates.Given as goal

abbrev pub invariant-loop-at : goal.invariant-loop-at
invariant-loop-at l =
    (l.gates ≡ bristol_gates_before l.keys l.circuit.gates l.at) × (l.gates ≤ l.at * 2 ^ 24)
