use Rattle.std.proofs.Common.{◌≡◌, ◌++◌}
use Rattle.share_types.specs.Sums.{each}
use Rattle.local_run.specs.Items.{item}
use Rattle.local_run.proofs.items.push_first_stages.Given as goal

abbrev pub invariant-loop-party : goal.invariant-loop-party
invariant-loop-party l = l.items.items ≡ l.initial.items.items ++ each l.party (item l.gate 0)
