use Rattle.std.proofs.Common.{◌≡◌, ◌++◌}
use Rattle.local_run.specs.Items.{items_behind}
use Rattle.local_run.proofs.items.push_later_stages.Given as goal

abbrev pub invariant-loop-round : goal.invariant-loop-round
invariant-loop-round l = l.items.items ≡ l.initial.items.items ++ items_behind l.plan l.gate l.round
