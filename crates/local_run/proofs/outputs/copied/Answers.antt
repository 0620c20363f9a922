use Rattle.local_run.proofs.Giving.{outputs_more}
use Rattle.local_run.proofs.outputs.copied.Goals as goal

pub loop-edge-preserved : goal.loop-edge-preserved
loop-edge-preserved c =
    outputs_more c.args.given.now c.args.loads.now c.args.edges.now c.loop-edge.edge-index c.loop-edge.outputs.items c.push.new.self.items _ c.in_ok-output.output
    c.requires c.loop-edge-test.true c.loop-edge.invariant c.in_ok-output.ensures c.in_ok-push.ensures.items
