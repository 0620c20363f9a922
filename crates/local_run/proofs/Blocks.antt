-- Edges one item after another.
use Rattle.std.proofs.Common.{◌≡◌, ℕ, ◌+◌, ◌<◌, ◌^◌, List, ◌++◌, length, map, Some, sym, ap, ap₂, ◌∙◌, subst, arith, add-one}
use Rattle.std.specs.Prelude.{slice_get, get_or}
use Rattle.turn_core.specs.declared.edge.Edge.{Edge}
use Rattle.plan_gates.specs.Plan.{Gates, IsPlan}
use Rattle.joint_run.proofs.Grown.{there_is}
use Rattle.local_run.specs.declared.item.Item.{Item}
use Rattle.local_run.specs.declared.item.Load.{Load}
use Rattle.local_run.specs.Items.{all_items, IsItem}
use Rattle.local_run.specs.Loads.{loads_to, loads_at, loads_before, edges_before, edge_to}
use Rattle.local_run.proofs.Numbers.{few_items}
use Rattle.local_run.proofs.Valid.{item_is}

-- ---- the loop over items

-- an item as the code reads it from the list of all
pub item_there : (plan : Gates) (items : List Item) (k : ℕ) (d : Item) → items ≡ all_items plan → k < length items → slice_get (all_items plan) k ≡ Some (get_or items k d)
item_there plan items k d are within = subst (λ (xs : List Item). slice_get xs k ≡ Some (get_or items k d)) are (there_is items k d within)

pub item_of : (plan : Gates) (items : List Item) (k : ℕ) (d : Item) → items ≡ all_items plan → k < length items → IsItem plan (get_or items k d)
item_of plan items k d are within = item_is plan k (get_or items k d) (item_there plan items k d are within)

pub number_fits : (plan : Gates) (items : List Item) (k : ℕ) → IsPlan plan → items ≡ all_items plan → k < length items → k < 2 ^ 27
number_fits plan items k is are within =
    let few = few_items plan (length plan.gates) is (omega arith) in
    omega (arith, few, within, ap length are)

pub loads_more : (plan : Gates) (items : List Item) (k : ℕ) (i : Item) (old new : List Load) → slice_get items k ≡ Some i → old ≡ loads_before plan items k → new ≡ old ++ loads_to plan i → new ≡ loads_before plan items (k + 1)
loads_more plan items k i old new there before more =
    rw (add-one k) (more ∙ ap₂ (λ (xs ys : List Load). xs ++ ys) before (ap (loads_at plan) (sym there)))

pub edges_more : (plan : Gates) (items : List Item) (k : ℕ) (i : Item) (old new : List Edge) (loads : List Load) → slice_get items k ≡ Some i → old ≡ edges_before plan items k → loads ≡ loads_to plan i → new ≡ old ++ map (edge_to plan k) loads → new ≡ edges_before plan items (k + 1)
edges_more plan items k i old new loads there before are more =
    rw (add-one k) (more ∙ ap₂ (λ (xs ys : List Edge). xs ++ ys) before (ap (map (edge_to plan k)) (are ∙ ap (loads_at plan) (sym there))))
