use Rattle.std.proofs.Common.{◌≡◌, ◌≢◌, ◌∙◌, sym, arith}
use Rattle.turn_core.specs.declared.edge.Edge.{Edge}
use Rattle.pool_workers.specs.Sums.{target_at}
use Rattle.pool_workers.proofs.Starts.{target_is, within_is, ends_other, ends_same}
use Rattle.pool_workers.proofs.start.count_ends.Goals as goal

abbrev none : Edge
none = record { source = 0; target = 0 }

pub loop-edge-preserved-then-edge : goal.loop-edge-preserved-then-edge
loop-edge-preserved-then-edge c =
    let i = c.loop-edge.invariant in
    let edges = c.args.dag.now.edges in
    let items = c.edges-edge-items.result.now in
    let at = c.loop-edge.edge-index in
    let within = within_is edges items at i.edges c.loop-edge-test.true in
    let other : target_at edges at ≢ 4294967295 = λ end. c.if-edge.true (sym (target_is edges items at none i.edges c.loop-edge-test.true) ∙ end) in
    record {
      edges = i.edges;
      count = i.count ∙ sym (ends_other edges at within other);
      few = omega (arith, i.few);
    }

pub loop-edge-preserved : goal.loop-edge-preserved
loop-edge-preserved c =
    let i = c.loop-edge.invariant in
    let edges = c.args.dag.now.edges in
    let items = c.edges-edge-items.result.now in
    let at = c.loop-edge.edge-index in
    let within = within_is edges items at i.edges c.loop-edge-test.true in
    let end : target_at edges at ≡ 4294967295 = target_is edges items at none i.edges c.loop-edge-test.true ∙ c.if-edge.false in
    let more = ends_same edges at within end in
    record {
      edges = i.edges;
      count = omega (arith, i.count, more);
      few = omega (arith, i.few);
    }
