use Rattle.std.proofs.Common.{◌≡◌, ◌≤◌, length, take, filter}
use Rattle.plan_gates.specs.Messages.{tells}
use Rattle.plan_gates.proofs.plan.Plan.outputs_of.Given as goal

abbrev pub invariant-loop-gate : goal.invariant-loop-gate
invariant-loop-gate l = (l.count ≡ length (filter (tells l.party.0) (take l.gate l.self.gates))) × (l.count ≤ l.gate)
