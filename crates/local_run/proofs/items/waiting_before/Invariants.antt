use Rattle.std.proofs.Common.{◌≡◌, ◌≤◌, ◌*◌, length}
use Rattle.local_run.specs.Items.{items_behind}
use Rattle.local_run.proofs.items.waiting_before.Given as goal

abbrev pub invariant-loop-earlier : goal.invariant-loop-earlier
invariant-loop-earlier l = (l.count ≡ length (items_behind l.plan l.gate l.earlier)) × (l.count ≤ 255 * l.earlier)
