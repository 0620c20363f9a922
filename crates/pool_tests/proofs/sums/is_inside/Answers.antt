use Rattle.std.proofs.Common.{◌≡◌, ◌≢◌, ◌<◌, List, length, get_or, ap, subst, arith}
use Rattle.turn_core.specs.declared.edge.Edge.{Edge}
use Rattle.turn_core.specs.declared.edge.TheConstants.{OUTSIDE}
use Rattle.pool_tests.proofs.Edges.{next_inside}
use Rattle.pool_tests.proofs.sums.is_inside.Goals as goal

pub loop-edge-preserved : goal.loop-edge-preserved
loop-edge-preserved c =
    let none : Edge = record { source = 0; target = 0 } in
    let at = c.loop-edge.edge-index in
    let same : length c.edges-edge-items.result.now ≡ length c.args.dag.now.edges = ap (λ (es : List Edge). length es) c.edges-edge-items.ensures in
    let within : at < length c.args.dag.now.edges = omega (arith, c.loop-edge-test.true, c.loop-edge.auto.edge-index-end, same) in
    let here = subst (λ (es : List Edge). (get_or es at none).source ≢ OUTSIDE) c.edges-edge-items.ensures c.if-edge.false in
    next_inside c.args.dag.now.edges at none within c.loop-edge.invariant here
