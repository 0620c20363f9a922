use Rattle.std.proofs.Common.{◌≡◌}
use Rattle.local_run.specs.Items.{all_items}
use Rattle.local_run.specs.Loads.{loads_before, edges_before}
use Rattle.local_run.proofs.edges.Edges.new.Given as goal

abbrev pub invariant-loop-number : goal.invariant-loop-number
invariant-loop-number l =
    (l.loads.items ≡ loads_before l.plan (all_items l.plan) l.number)
    × (l.edges.items ≡ edges_before l.plan (all_items l.plan) l.number)
