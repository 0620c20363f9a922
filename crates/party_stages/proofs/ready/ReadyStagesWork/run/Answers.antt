use Rattle.std.proofs.Common.{◌≡◌, ◌<◌, List, [], ◌∷◌, ◌++◌, sym, ◌∙◌, ap, subst, length}
use Rattle.turn_core.specs.Graph.{Graph, outgoing}
use Rattle.task_pool.specs.Meanings.{AreMeanings}
use Rattle.party_stages.specs.declared.ran.Ran.{Ran}
use Rattle.party_stages.specs.Following.{IsRan}
use Rattle.party_stages.specs.Scene.{Wave, lone_items}
use Rattle.party_stages.proofs.Lone.{one_edge}
use Rattle.party_stages.proofs.ready.ReadyStagesWork.run.Goals as goal

pub returns : goal.returns
returns c =
    let w = c.args.self.now in
    let ran = c.in_ok-ran.ran in
    let count = length c.self.inside.ready.now in
    let graph : w.graph ≡ lone_items count = ap (λ (v : Wave). v.graph) (sym c.self.view_is) ∙ c.self.invariant.graph_is in
    let inside : c.args.item < count = subst (λ (g : Graph). c.args.item < g.items) graph c.requires.is_item in
    let edges : outgoing w.graph c.args.item ≡ c.args.item ∷ [] = ap (λ (g : Graph). outgoing g c.args.item) graph ∙ one_edge count c.args.item inside in
    let given : IsRan w.side w.inbox ran = subst (λ (v : Wave). IsRan v.side v.inbox ran) c.self.view_is c.in_ok-ran.ensures.ran in
    let items : c.push.new.self.items ≡ ran ∷ [] = c.in_ok-push.ensures.items ∙ ap (λ (rs : List Ran). rs ++ ran ∷ []) c.new-outputs.ensures.items in
    subst (λ es. AreMeanings (λ _ r. IsRan w.side w.inbox r) es c.push.new.self.items) (sym edges)
    (subst (λ (rs : List Ran). AreMeanings (λ _ r. IsRan w.side w.inbox r) (c.args.item ∷ []) rs) (sym items) (given, tt))
