use Rattle.std.proofs.Common.{◌≡◌, length}
use Rattle.plan_gates.specs.Plan.{with_gates}
use Rattle.gate_plan.specs.Blocks.{in_row}
use Rattle.gate_plan.specs.Convert.{joiner_of, joined_wire, joint_gates}
use Rattle.gate_plan.proofs.convert.push_joints.Given as goal

abbrev pub invariant-loop-done : goal.invariant-loop-done
invariant-loop-done l =
    (l.draft ≡ with_gates l.fn.draft (in_row l.done (joint_gates (joiner_of l.parts) l.first (length l.fn.draft.gates))))
    × (l.wire ≡ joined_wire (joiner_of l.parts) l.first (length l.fn.draft.gates) l.done)
