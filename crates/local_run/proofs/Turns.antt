-- An item of a running run.
use Rattle.std.proofs.Common.{◌≡◌, false, ℕ, ◌<◌, List, length, get_or, Some, sym, ◌∙◌, subst}
use Rattle.std.specs.Prelude.{slice_get}
use Rattle.std.specs.List.{AllByRecursion}
use Rattle.turn_core.specs.Graph.{Graph, incoming, outgoing}
use Rattle.task_pool.specs.Meanings.{AreMeanings, HasNoOutside, ends_of}
use Rattle.plan_gates.specs.Plan.{Gates, IsPlan, has_keys}
use Rattle.gate_tasks.specs.declared.stage.StageOut.{StageOut}
use Rattle.joint_run.specs.Party.{Own}
use Rattle.local_run.specs.declared.item.Item.{Item}
use Rattle.local_run.specs.declared.item.Load.{Load}
use Rattle.local_run.specs.declared.cargo.Cargo.{Cargo}
use Rattle.local_run.specs.Items.{all_items}
use Rattle.local_run.specs.Loads.{loads_to, all_loads, reports_loads, graph_of}
use Rattle.local_run.specs.Meaning.{edge_means, AreMeant, AreFit, IsMeant, IsFit, HasRun, HasCargoAt, IsCargoAt}
use Rattle.local_run.proofs.Ranges.{inputs_meant, ends_meant}
use Rattle.local_run.proofs.Leaving.{all_have, outputs_mean, none_outside}
use Rattle.local_run.proofs.Lines.{pairs_weaker}
use Rattle.mot_base.proofs.Lists.{read_at as read_there}

pub within : (plan : Gates) (dag graph : Graph) (k : ℕ) → dag ≡ graph → dag ≡ graph_of plan → k < graph.items → k < length (all_items plan)
within plan dag graph k same is less = subst (λ (g : Graph). k < g.items) (sym same ∙ is) less

pub place_there : (plan : Gates) (items : List Item) (k : ℕ) (place : Item) → items ≡ all_items plan → k < length (all_items plan) → place ≡ get_or items k place → slice_get (all_items plan) k ≡ Some place
place_there plan items k place are less read =
    let inside : k < length items = subst (λ (xs : List Item). k < length xs) (sym are) less in
    subst (λ (xs : List Item). slice_get xs k ≡ Some place) are (read_there items k place inside read)

pub inputs_at : (plan : Gates) (owns : List Own) (dag : Graph) (k : ℕ) (place : Item) (vs ws : List Cargo) → IsPlan plan → dag ≡ graph_of plan → k < length (all_items plan) → slice_get (all_items plan) k ≡ Some place →
    AreMeanings (edge_means plan owns) (incoming dag k) vs → ws ≡ vs → AreMeant plan owns (loads_to plan place) ws
inputs_at plan owns dag k place vs ws is same less there are moved =
    let here = subst (λ (g : Graph). AreMeanings (edge_means plan owns) (incoming g k) vs) same are in
    subst (λ (xs : List Cargo). AreMeant plan owns (loads_to plan place) xs) (sym moved) (inputs_meant plan owns k place vs is less there here)

pub outputs_have : (plan : Gates) (owns : List Own) (dag : Graph) (k : ℕ) (place : Item) (loads : List Load) (edges : List ℕ) (given : StageOut) → length owns ≡ plan.parties → IsPlan plan → has_keys plan ≡ false → dag ≡ graph_of plan → loads ≡ all_loads plan → edges ≡ outgoing dag k →
    slice_get (all_items plan) k ≡ Some place → HasRun plan owns place given → AllByRecursion (λ e. HasCargoAt given (slice_get loads e)) edges
outputs_have plan owns dag k place loads edges given count is unkeyed same are these there run =
    let here = all_have plan owns count k place is unkeyed there given run in
    let one = subst (λ (g : Graph). AllByRecursion (λ e. HasCargoAt given (slice_get (all_loads plan) e)) (outgoing g k)) (sym same) here in
    let two = subst (λ (ls : List Load). AllByRecursion (λ e. HasCargoAt given (slice_get ls e)) (outgoing dag k)) (sym are) one in
    subst (λ (es : List ℕ). AllByRecursion (λ e. HasCargoAt given (slice_get loads e)) es) (sym these) two

pub outputs_at : (plan : Gates) (owns : List Own) (dag : Graph) (k : ℕ) (place : Item) (loads : List Load) (edges : List ℕ) (given : StageOut) (vs : List Cargo) → length owns ≡ plan.parties → IsPlan plan → has_keys plan ≡ false → dag ≡ graph_of plan → loads ≡ all_loads plan → edges ≡ outgoing dag k →
    slice_get (all_items plan) k ≡ Some place → HasRun plan owns place given → AreMeanings (λ e c. IsCargoAt given (slice_get loads e) c) edges vs → AreMeanings (edge_means plan owns) (outgoing dag k) vs
outputs_at plan owns dag k place loads edges given vs count is unkeyed same are these there run mean =
    let one = subst (λ (es : List ℕ). AreMeanings (λ e c. IsCargoAt given (slice_get loads e) c) es vs) these mean in
    let two = subst (λ (ls : List Load). AreMeanings (λ e c. IsCargoAt given (slice_get ls e) c) (outgoing dag k) vs) are one in
    let three = subst (λ (g : Graph). AreMeanings (λ e c. IsCargoAt given (slice_get (all_loads plan) e) c) (outgoing g k) vs) same two in
    let four = outputs_mean plan owns count k place is unkeyed there given run vs three in
    subst (λ (g : Graph). AreMeanings (edge_means plan owns) (outgoing g k) vs) (sym same) four

-- ---- the whole run

pub outside_none : (plan : Gates) (dag : Graph) → IsPlan plan → dag ≡ graph_of plan → HasNoOutside dag
outside_none plan dag is same = subst (λ (g : Graph). HasNoOutside g) (sym same) (none_outside plan is)

pub ends_come : (plan : Gates) (owns : List Own) (dag : Graph) (vs ws : List Cargo) → IsPlan plan → dag ≡ graph_of plan → AreMeanings (edge_means plan owns) (ends_of dag) vs → ws ≡ vs → AreMeant plan owns (reports_loads plan plan.parties) ws
ends_come plan owns dag vs ws is same are moved =
    let here = subst (λ (g : Graph). AreMeanings (edge_means plan owns) (ends_of g) vs) same are in
    subst (λ (xs : List Cargo). AreMeant plan owns (reports_loads plan plan.parties) xs) (sym moved) (ends_meant plan owns vs is here)

pub ends_fit : (plan : Gates) (owns : List Own) (ls : List Load) (cs : List Cargo) → AreMeant plan owns ls cs → AreFit plan ls cs
ends_fit plan owns ls cs are = pairs_weaker (IsMeant plan owns) (IsFit plan) (λ l c meant. meant.0) ls cs are
