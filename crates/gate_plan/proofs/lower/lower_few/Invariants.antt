use Rattle.std.proofs.Common.{◌≡◌, ◌≤◌, length, take}
use Rattle.mixed_language.specs.Table.{inputs_of}
use Rattle.gate_plan.specs.Lowering.{lowered_to, draft_to}
use Rattle.gate_plan.proofs.lower.lower_few.Given as goal

abbrev pub invariant-loop-at : goal.invariant-loop-at
invariant-loop-at l =
    (l.draft ≡ draft_to l.circuit l.at)
    × (l.wires.items ≡ (lowered_to l.circuit l.at).wires)
    × (l.inputs ≡ length (inputs_of (take l.at l.circuit.statements)))
    × (l.inputs ≤ l.at)
