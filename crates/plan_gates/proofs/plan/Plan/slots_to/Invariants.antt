use Rattle.std.proofs.Common.{◌≡◌}
use Rattle.plan_gates.proofs.SlotLemmas.{slots_before}
use Rattle.plan_gates.proofs.plan.Plan.slots_to.Given as goal

abbrev pub invariant-loop-sender : goal.invariant-loop-sender
invariant-loop-sender l = l.slots.items ≡ slots_before l.self l.receiver.0 l.sender
