use Rattle.std.proofs.Common.{◌≡◌, None, filter}
use Rattle.std.specs.Prelude.{is_some}
use Rattle.share_types.specs.Sums.{each}
use Rattle.plan_gates.specs.Messages.{message}
use Rattle.gate_tasks.specs.Task.{party_lacking}
use Rattle.gate_tasks.proofs.gather.slot_lacking.Given as goal

abbrev pub invariant-loop-from : goal.invariant-loop-from
invariant-loop-from l =
    party_lacking l.env.inbox.now l.gate l.round
    (filter (λ from. is_some (message l.env.plan.now from l.env.own.now.me.0 l.gate l.round)) (each l.from (λ from. from)))
    ≡ None
