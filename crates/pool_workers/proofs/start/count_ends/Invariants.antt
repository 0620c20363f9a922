use Rattle.std.proofs.Common.{◌≡◌, ◌≤◌, length, take}
use Rattle.turn_core.specs.Graph.{places}
use Rattle.pool_workers.proofs.Starts.{ends_at}
use Rattle.pool_workers.proofs.start.count_ends.Given as goal

abbrev pub invariant-loop-edge : goal.invariant-loop-edge
invariant-loop-edge l = record {
  edges : l.edge-items ≡ l.dag.edges;
  count : l.count ≡ length (places 4294967295 (take l.edge-index (ends_at l.dag.edges)));
  few : l.count ≤ l.edge-index;
}
