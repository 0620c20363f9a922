use Rattle.std.proofs.Common.{◌≡◌, ◌++◌, map, is_some}
use Rattle.plan_gates.specs.Messages.{message}
use Rattle.local_run.specs.declared.item.Load.TheVariants.{Message}
use Rattle.local_run.specs.Loads.{party}
use Rattle.local_run.proofs.Lists.{passing}
use Rattle.local_run.proofs.loads.push_sent_round.Given as goal

abbrev pub invariant-loop-to : goal.invariant-loop-to
invariant-loop-to l =
    l.loads.items
    ≡ l.initial.loads.items
    ++ map (λ to. Message l.gate l.round l.party (party to)) (passing (λ to. is_some (message l.plan l.party.0 to l.gate l.round)) l.to)
