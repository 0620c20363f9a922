use Rattle.std.proofs.Common.{◌≡◌, ◌++◌, map, is_some}
use Rattle.plan_gates.specs.Messages.{message}
use Rattle.local_run.specs.declared.item.Load.TheVariants.{Message}
use Rattle.local_run.specs.Loads.{party}
use Rattle.local_run.proofs.Lists.{passing}
use Rattle.local_run.proofs.loads.push_sent_to.Given as goal

abbrev pub invariant-loop-from : goal.invariant-loop-from
invariant-loop-from l =
    l.loads.items
    ≡ l.initial.loads.items
    ++ map (λ from. Message l.gate l.round (party from) l.party) (passing (λ from. is_some (message l.plan from l.party.0 l.gate l.round)) l.from)
