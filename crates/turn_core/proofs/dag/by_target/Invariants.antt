use Rattle.std.proofs.Common.{◌≡◌, map, take}
use Rattle.turn_core.proofs.dag.by_target.Given as goal

abbrev pub invariant-loop-edge : goal.invariant-loop-edge
invariant-loop-edge l = l.targets.items ≡ map (λ edge. edge.target) (take l.edge-index l.edges)
