use Rattle.std.proofs.Common.{◌≡◌, length}
use Rattle.plan_gates.specs.Plan.{with_gates}
use Rattle.gate_plan.specs.Adder.{sums_at}
use Rattle.gate_plan.proofs.AdderCodeLemmas.{bits_to}
use Rattle.gate_plan.proofs.adder.push_adder.Given as goal

abbrev pub invariant-loop-done : goal.invariant-loop-done
invariant-loop-done l =
    (l.draft ≡ with_gates l.fn.draft (bits_to (length l.fn.draft.gates) l.a l.b l.done))
    × (l.sums ≡ sums_at (length l.fn.draft.gates) l.done)
