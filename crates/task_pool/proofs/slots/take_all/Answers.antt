use Rattle.task_pool.proofs.Moves.{takes-next}
use Rattle.task_pool.proofs.slots.take_all.Goals as goal

pub loop-edge-preserved : goal.loop-edge-preserved
loop-edge-preserved g c =
    takes-next c.args.edges.now c.loop-edge.edge-index c.args.slots.now c.loop-edge.slots c.take.new.self c.loop-edge.values.items
    c.push.new.self.items c.in-Some.value c.take.result
    c.requires.distinct c.loop-edge-test.true c.loop-edge.invariant
    c.take.ensures.value c.in-Some.is c.take.ensures.after c.in_ok-push.ensures.items
