use Rattle.std.proofs.Common.{◌≢◌, ◌<◌, ℕ}
use Rattle.turn_core.specs.declared.edge.TheConstants.{OUTSIDE}
use Rattle.turn_core.specs.Graph.{source}
use Rattle.pool_tests.proofs.sums.is_inside.Given as goal

abbrev pub invariant-loop-edge : goal.invariant-loop-edge
invariant-loop-edge l = (e : ℕ) → e < l.edge-index → source l.dag e ≢ OUTSIDE
