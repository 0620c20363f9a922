use Rattle.std.proofs.Common.{◌≡◌}
use Rattle.share_types.specs.Sums.{each}
use Rattle.local_run.specs.Items.{items_before, first_item}
use Rattle.local_run.proofs.items.Items.new.Given as goal

abbrev pub invariant-loop-gate : goal.invariant-loop-gate
invariant-loop-gate l =
    (l.list.items ≡ items_before l.plan l.gate) × (l.firsts.items ≡ each l.gate (first_item l.plan))
