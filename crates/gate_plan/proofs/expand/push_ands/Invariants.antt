use Rattle.std.proofs.Common.{◌≡◌, length}
use Rattle.std.specs.Prelude.{slice_index}
use Rattle.plan_gates.specs.Plan.{with_gates}
use Rattle.gate_plan.specs.Blocks.{wire_among}
use Rattle.gate_plan.specs.Bristol.{ands_gates}
use Rattle.gate_plan.proofs.expand.push_ands.Given as goal

abbrev pub invariant-loop-i : goal.invariant-loop-i
invariant-loop-i l =
    l.draft
    ≡ with_gates l.fn.draft (ands_gates l.keys (λ i. wire_among l.wires (slice_index l.ins i)) l.count
    (length l.fn.draft.gates) l.i)
