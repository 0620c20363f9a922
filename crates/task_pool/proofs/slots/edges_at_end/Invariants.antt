use Rattle.std.proofs.Common.{◌≡◌, take}
use Rattle.turn_core.specs.declared.edge.TheConstants.{TERMINAL}
use Rattle.turn_core.specs.Graph.{targets, places}
use Rattle.task_pool.proofs.slots.edges_at_end.Given as goal

abbrev pub invariant-loop-number : goal.invariant-loop-number
invariant-loop-number l =
    (l.edge-items ≡ l.dag.edges)
    × (l.edges.items ≡ places TERMINAL (take l.number (targets l.dag)))
