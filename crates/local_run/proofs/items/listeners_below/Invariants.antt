use Rattle.std.proofs.Common.{◌≡◌, ◌≤◌, length}
use Rattle.local_run.specs.Items.{listeners}
use Rattle.local_run.proofs.items.listeners_below.Given as goal

abbrev pub invariant-loop-party : goal.invariant-loop-party
invariant-loop-party l = (l.count ≡ length (listeners l.plan l.gate l.round l.party)) × (l.count ≤ l.party)
