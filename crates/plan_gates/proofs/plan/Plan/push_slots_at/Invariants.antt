use Rattle.std.proofs.Common.{◌≡◌, ◌++◌}
use Rattle.plan_gates.specs.Messages.{slots_in}
use Rattle.plan_gates.proofs.plan.Plan.push_slots_at.Given as goal

abbrev pub invariant-loop-round : goal.invariant-loop-round
invariant-loop-round l =
    l.slots.items ≡ l.fn.slots.items ++ slots_in l.self l.sender.0 l.receiver.0 l.gate l.round
