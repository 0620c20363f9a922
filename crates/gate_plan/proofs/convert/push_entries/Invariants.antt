use Rattle.std.proofs.Common.{◌≡◌, length}
use Rattle.plan_gates.specs.Plan.{with_gates}
use Rattle.gate_plan.specs.Convert.{entries}
use Rattle.gate_plan.proofs.convert.push_entries.Given as goal

abbrev pub invariant-loop-party : goal.invariant-loop-party
invariant-loop-party l = l.draft ≡ with_gates l.fn.draft (entries l.parts (length l.fn.draft.gates) l.party)
