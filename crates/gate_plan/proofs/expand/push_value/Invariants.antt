use Rattle.std.proofs.Common.{◌≡◌, length}
use Rattle.plan_gates.specs.Plan.{with_gates}
use Rattle.gate_plan.specs.Bristol.{value_gates}
use Rattle.gate_plan.proofs.expand.push_value.Given as goal

abbrev pub invariant-loop-at : goal.invariant-loop-at
invariant-loop-at l =
    l.draft ≡ with_gates l.fn.draft (value_gates l.keys (length l.fn.draft.gates) l.party.0 l.k l.at)
