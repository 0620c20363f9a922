use Rattle.std.proofs.Common.{◌≡◌, ◌++◌}
use Rattle.task_pool.proofs.Moves.{Puts}
use Rattle.task_pool.proofs.slots.put_all.Given as goal

abbrev pub invariant-loop-value : goal.invariant-loop-value
invariant-loop-value g l =
    Puts l.edges l.at l.fn.slots l.slots l.yielded
    × (l.yielded ++ l.value-iterator.rest.items ≡ l.fn.values.items)
