use Rattle.std.proofs.Common.{◌≡◌, ◌-◌, length}
use Rattle.std.specs.Prelude.{sum}
use Rattle.plan_gates.specs.Plan.{with_gates}
use Rattle.gate_plan.specs.Bristol.{output_gates}
use Rattle.gate_plan.proofs.expand.push_outputs.Given as goal

abbrev pub invariant-loop-place : goal.invariant-loop-place
invariant-loop-place l =
    l.draft
    ≡ with_gates l.fn.draft (output_gates l.keys l.wires (length l.fn.draft.gates)
    (l.circuit.wires - sum l.circuit.outputs) l.place)
