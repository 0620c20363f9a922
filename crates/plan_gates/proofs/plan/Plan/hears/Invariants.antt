use Rattle.std.proofs.Common.{◌≡◌, false}
use Rattle.std.specs.Prelude.{is_some}
use Rattle.std.specs.List.{list_any}
use Rattle.share_types.specs.Sums.{each}
use Rattle.plan_gates.specs.Messages.{message}
use Rattle.plan_gates.proofs.plan.Plan.hears.Given as goal

abbrev pub invariant-loop-from : goal.invariant-loop-from
invariant-loop-from l =
    list_any (λ from. is_some (message l.self from l.party.0 l.gate l.round)) (each l.from (λ from. from)) ≡ false
