use Rattle.task_pool.proofs.Moves.{Takes}
use Rattle.task_pool.proofs.slots.take_all.Given as goal

abbrev pub invariant-loop-edge : goal.invariant-loop-edge
invariant-loop-edge g l = Takes l.edges l.edge-index l.fn.slots l.slots l.values.items
