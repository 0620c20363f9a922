use Rattle.std.proofs.Common.{◌≡◌, ◌++◌}
use Rattle.plan_gates.specs.Messages.{slots_from}
use Rattle.plan_gates.proofs.plan.Plan.push_slots.Given as goal

abbrev pub invariant-loop-gate : goal.invariant-loop-gate
invariant-loop-gate l = l.slots.items ≡ l.fn.slots.items ++ slots_from l.self l.sender.0 l.receiver.0 l.gate
