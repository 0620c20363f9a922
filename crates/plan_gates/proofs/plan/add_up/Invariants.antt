use Rattle.std.proofs.Common.{◌≡◌}
use Rattle.share_types.specs.Sums.{each}
use Rattle.plan_gates.specs.Needs.{offset}
use Rattle.plan_gates.proofs.plan.add_up.Given as goal

abbrev pub invariant-loop-gate : goal.invariant-loop-gate
invariant-loop-gate l =
    (l.offsets.items ≡ each l.gate (offset l.draft)) × (l.needs ≡ offset l.draft l.gate)
