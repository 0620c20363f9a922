use Rattle.std.proofs.Common.{◌≡◌, ◌≤◌, ◌<◌, ◌⊎◌, length}
use Rattle.plan_gates.specs.Messages.{hears}
use Rattle.plan_gates.proofs.MessageLemmas.{passing}
use Rattle.plan_gates.proofs.plan.Plan.awaits.Given as goal

abbrev pub invariant-loop-round : goal.invariant-loop-round
invariant-loop-round l =
    (l.reached ≡ length (passing (hears l.self l.party.0 l.gate) l.round)) × (l.reached ≤ l.round)
    × ((l.stage ≡ 0) ⊎ (l.reached < l.stage))
