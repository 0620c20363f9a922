use Rattle.std.proofs.Common.{◌≡◌, map, take}
use Rattle.turn_core.proofs.dag.by_source.Given as goal

abbrev pub invariant-loop-edge : goal.invariant-loop-edge
invariant-loop-edge l = l.sources.items ≡ map (λ edge. edge.source) (take l.edge-index l.edges)
