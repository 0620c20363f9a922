use Rattle.std.proofs.Common.{◌≡◌, ◌++◌, map}
use Rattle.local_run.specs.Items.{waiting, listeners}
use Rattle.local_run.proofs.items.push_waiting.Given as goal

abbrev pub invariant-loop-party : goal.invariant-loop-party
invariant-loop-party l =
    l.items.items ≡ l.initial.items.items ++ map (waiting l.plan l.gate l.round) (listeners l.plan l.gate l.round l.party)
