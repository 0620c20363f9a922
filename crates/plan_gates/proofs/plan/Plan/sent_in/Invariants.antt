use Rattle.std.proofs.Common.{◌≡◌, ◌≤◌, length}
use Rattle.plan_gates.specs.Messages.{hears}
use Rattle.plan_gates.proofs.MessageLemmas.{passing}
use Rattle.plan_gates.proofs.plan.Plan.sent_in.Given as goal

abbrev pub invariant-loop-before : goal.invariant-loop-before
invariant-loop-before l =
    (l.stage ≡ length (passing (hears l.self l.sender.0 l.gate) l.before)) × (l.stage ≤ l.before)
