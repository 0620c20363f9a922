use Rattle.turn_core.specs.Graph.{outgoing}
use Rattle.std.proofs.Common.{refl}
use Rattle.pool_tests.proofs.Edges.{sent}
use Rattle.pool_tests.proofs.sums.SumsWork.run.Goals as goal

pub returns : goal.returns
returns c =
    sent (outgoing c.args.self.now.dag c.args.item) _ c.outgoing.result.now _ _
    (c.in_ok-outputs.ensures.items_if_clones_equal (λ y same. same)) refl c.outgoing.ensures
