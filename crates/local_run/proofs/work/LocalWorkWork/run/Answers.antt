use Rattle.std.proofs.Common.{refl, sym, ap, subst, ◌∙◌}
use Rattle.turn_core.specs.Graph.{incoming, outgoing}
use Rattle.task_pool.specs.Meanings.{AreMeanings}
use Rattle.local_run.specs.Running.{Running}
use Rattle.local_run.specs.Meaning.{owns_with, edge_means}
use Rattle.local_run.proofs.Valid.{item_is}
use Rattle.local_run.proofs.Serving.{with_count}
use Rattle.local_run.proofs.Turns.{within, place_there, inputs_at, outputs_have, outputs_at}
use Rattle.local_run.proofs.work.LocalWorkWork.run.Goals as goal

pub run_item-requires-clause-item : goal.run_item-requires-clause-item
run_item-requires-clause-item c =
    let plan = c.self.inside.job.now.plan in
    let less = within plan c.self.inside.graph.now.dag c.args.self.now.graph c.args.item (ap (λ (x : Running). x.graph) c.self.view_is) c.self.invariant.graph_is c.requires.is_item in
    let there = place_there plan c.self.inside.graph.now.items.items c.args.item c.index-place.result.now c.self.invariant.items_are less c.index-place.ensures in
    item_is plan c.args.item c.index-place.result.now there

pub run_item-requires-clause-inputs : goal.run_item-requires-clause-inputs
run_item-requires-clause-inputs c =
    let plan = c.self.inside.job.now.plan in
    let owns = owns_with c.self.inside.job.now.owns.items c.self.inside.parts.now in
    let less = within plan c.self.inside.graph.now.dag c.args.self.now.graph c.args.item (ap (λ (x : Running). x.graph) c.self.view_is) c.self.invariant.graph_is c.requires.is_item in
    let there = place_there plan c.self.inside.graph.now.items.items c.args.item c.index-place.result.now c.self.invariant.items_are less c.index-place.ensures in
    let are = subst (λ (x : Running). AreMeanings (edge_means x.plan x.owns) (incoming x.graph c.args.item) c.args.inputs.now.items) (sym c.self.view_is) c.requires.inputs in
    inputs_at plan owns c.self.inside.graph.now.dag c.args.item c.index-place.result.now c.args.inputs.now.items c.args.inputs.now.items
    c.self.invariant.plan_is c.self.invariant.graph_is less there are refl

pub outputs-requires : goal.outputs-requires
outputs-requires c =
    let plan = c.self.inside.job.now.plan in
    let owns = owns_with c.self.inside.job.now.owns.items c.self.inside.parts.now in
    let less = within plan c.self.inside.graph.now.dag c.args.self.now.graph c.args.item (ap (λ (x : Running). x.graph) c.self.view_is) c.self.invariant.graph_is c.requires.is_item in
    let there = place_there plan c.self.inside.graph.now.items.items c.args.item c.index-place.result.now c.self.invariant.items_are less c.index-place.ensures in
    let count = with_count plan c.self.inside.job.now.owns.items c.self.inside.parts.now c.self.invariant.job in
    outputs_have plan owns c.self.inside.graph.now.dag c.args.item c.index-place.result.now _ _ c.in_ok-given.given count
    c.self.invariant.plan_is c.self.invariant.job.keyless c.self.invariant.graph_is (c.deref.ensures.value ∙ c.self.invariant.loads_are) c.outgoing-edges.ensures there c.in_ok-given.ensures

pub returns : goal.returns
returns c =
    let plan = c.self.inside.job.now.plan in
    let owns = owns_with c.self.inside.job.now.owns.items c.self.inside.parts.now in
    let less = within plan c.self.inside.graph.now.dag c.args.self.now.graph c.args.item (ap (λ (x : Running). x.graph) c.self.view_is) c.self.invariant.graph_is c.requires.is_item in
    let there = place_there plan c.self.inside.graph.now.items.items c.args.item c.index-place.result.now c.self.invariant.items_are less c.index-place.ensures in
    let count = with_count plan c.self.inside.job.now.owns.items c.self.inside.parts.now c.self.invariant.job in
    let here = outputs_at plan owns c.self.inside.graph.now.dag c.args.item c.index-place.result.now _ _ c.in_ok-given.given c.in_ok-outputs.outputs.items count
    c.self.invariant.plan_is c.self.invariant.job.keyless c.self.invariant.graph_is (c.deref.ensures.value ∙ c.self.invariant.loads_are) c.outgoing-edges.ensures there c.in_ok-given.ensures c.in_ok-outputs.ensures in
    subst (λ (x : Running). AreMeanings (edge_means x.plan x.owns) (outgoing x.graph c.args.item) c.in_ok-outputs.outputs.items) c.self.view_is here
