-- The edges to an item stand one behind another, and carry what flows into it.
use Rattle.std.proofs.Common.{◌≡◌, ◌≢◌, ℕ, zero, suc, ◌+◌, ◌<◌, ◌≤◌, Bool, true, false, cond, eqb, List, [], ◌∷◌, ◌++◌, length, map, Some, refl, sym, ap, ap₂, ◌∙◌, subst, arith, ⊎_elim}
use Rattle.std.specs.Prelude.{slice_get}
use Rattle.std.proofs.lemmas.Bool.{cases_eq, eq-eqb, ne_eqb}
use Rattle.std.proofs.lemmas.List.{append-nil, length-append, length-map, map-append}
use Rattle.turn_core.specs.declared.edge.Edge.{Edge}
use Rattle.turn_core.specs.declared.edge.TheConstants.{TERMINAL}
use Rattle.turn_core.specs.Graph.{targets, sources, places_from, incoming}
use Rattle.task_pool.specs.Meanings.{AreMeanings, ends_of}
use Rattle.plan_gates.specs.Plan.{Gates, IsPlan}
use Rattle.joint_run.specs.Party.{Own}
use Rattle.joint_run.proofs.Grown.{map_map}
use Rattle.local_run.specs.declared.item.Item.{Item}
use Rattle.local_run.specs.declared.item.Load.{Load}
use Rattle.local_run.specs.declared.cargo.Cargo.{Cargo}
use Rattle.local_run.specs.Items.{all_items, number_of}
use Rattle.local_run.specs.Loads.{loads_to, loads_at, loads_before, all_loads, reports_loads, edges_before, edge_to, giver, graph_of}
use Rattle.local_run.specs.Meaning.{IsMeantAt, edge_means, AreMeant}
use Rattle.local_run.proofs.Lists.{at_left, at_right}
use Rattle.local_run.proofs.Numbers.{few_items}

-- so many numbers from one on
abbrev pub run_from : ℕ → ℕ → List ℕ
run_from first zero = []
run_from first (suc n) = first ∷ run_from (first + 1) n

-- ---- places of a number that stands many times at the end

front : (b : Bool) (n : ℕ) (xs ys : List ℕ) → cond b (n ∷ (xs ++ ys)) (xs ++ ys) ≡ cond b (n ∷ xs) xs ++ ys
front true n xs ys = refl
front false n xs ys = refl

places_append : (n k : ℕ) (xs ys : List ℕ) → places_from n k (xs ++ ys) ≡ places_from n k xs ++ places_from (n + length xs) k ys
places_append n k [] ys = let e : n + 0 ≡ n = omega arith in rw e refl
places_append n k (x ∷ xs) ys =
    let e : n + suc (length xs) ≡ n + 1 + length xs = omega arith in
    rw (e, places_append (n + 1) k xs ys) (front (eqb x k) n (places_from (n + 1) k xs) (places_from (n + 1 + length xs) k ys))

places_same : (n k : ℕ) (ls : List Load) → places_from n k (map (λ _. k) ls) ≡ run_from n (length ls)
places_same n k [] = refl
places_same n k (l ∷ ls) = rw (eq-eqb k k refl) (ap (λ (xs : List ℕ). n ∷ xs) (places_same (n + 1) k ls))

places_other : (n j k : ℕ) (ls : List Load) → k ≢ j → places_from n j (map (λ _. k) ls) ≡ []
places_other n j k [] other = refl
places_other n j k (l ∷ ls) other = rw (ne_eqb k j other) (places_other (n + 1) j k ls other)

-- ---- the targets of all edges

-- the target of each edge to the first items
abbrev keys : Gates → List Item → ℕ → List ℕ
keys plan items zero = []
keys plan items (suc k) = keys plan items k ++ map (λ _. k) (loads_at plan (slice_get items k))

targets_before : (plan : Gates) (items : List Item) (k : ℕ) → map (λ e. e.target) (edges_before plan items k) ≡ keys plan items k
targets_before plan items zero = refl
targets_before plan items (suc k) =
    map-append (λ (e : Edge). e.target) (edges_before plan items k) (map (edge_to plan k) (loads_at plan (slice_get items k)))
    ∙ ap₂ (λ (xs ys : List ℕ). xs ++ ys) (targets_before plan items k) (map_map (λ (e : Edge). e.target) (edge_to plan k) (loads_at plan (slice_get items k)))

keys_long : (plan : Gates) (items : List Item) (k : ℕ) → length (keys plan items k) ≡ length (loads_before plan items k)
keys_long plan items zero = refl
keys_long plan items (suc k) =
    let one = length-append (keys plan items k) (map (λ _. k) (loads_at plan (slice_get items k))) in
    let two = length-append (loads_before plan items k) (loads_at plan (slice_get items k)) in
    let same = length-map (loads_at plan (slice_get items k)) (λ _. k) in
    omega (arith, one, two, same, keys_long plan items k)

keys_below : (plan : Gates) (items : List Item) (j k : ℕ) → k ≤ j → places_from 0 j (keys plan items k) ≡ []
keys_below plan items j zero less = refl
keys_below plan items j (suc k) less =
    places_append 0 j (keys plan items k) (map (λ _. k) (loads_at plan (slice_get items k)))
    ∙ ap₂ (λ (xs ys : List ℕ). xs ++ ys) (keys_below plan items j k (omega (arith, less))) (places_other (0 + length (keys plan items k)) j k (loads_at plan (slice_get items k)) (λ same. absurd (omega (arith, less, same))))

abbrev range_to : Gates → List Item → ℕ → List ℕ
range_to plan items j = run_from (length (loads_before plan items j)) (length (loads_at plan (slice_get items j)))

keys_at : (plan : Gates) (items : List Item) (j k : ℕ) → j < k → places_from 0 j (keys plan items k) ≡ range_to plan items j
keys_at plan items j zero less = absurd (omega (arith, less))
keys_at plan items j (suc k) less =
    places_append 0 j (keys plan items k) (map (λ _. k) (loads_at plan (slice_get items k)))
    ∙ ⊎_elim
    (λ (same : j ≡ k).
    let start : 0 + length (keys plan items k) ≡ length (loads_before plan items k) = omega (arith, keys_long plan items k) in
    let here : places_from (0 + length (keys plan items k)) k (map (λ _. k) (loads_at plan (slice_get items k))) ≡ range_to plan items k =
    places_same (0 + length (keys plan items k)) k (loads_at plan (slice_get items k)) ∙ ap (λ (n : ℕ). run_from n (length (loads_at plan (slice_get items k)))) start in
    let both : places_from 0 k (keys plan items k) ++ places_from (0 + length (keys plan items k)) k (map (λ _. k) (loads_at plan (slice_get items k))) ≡ range_to plan items k =
    ap₂ (λ (xs ys : List ℕ). xs ++ ys) (keys_below plan items k k (omega arith)) here in
    subst (λ (m : ℕ). places_from 0 m (keys plan items k) ++ places_from (0 + length (keys plan items k)) m (map (λ _. k) (loads_at plan (slice_get items k))) ≡ range_to plan items m) (sym same) both)
    (λ (other : j ≢ k).
    ap₂ (λ (xs ys : List ℕ). xs ++ ys) (keys_at plan items j k (omega (arith, less, other))) (places_other (0 + length (keys plan items k)) j k (loads_at plan (slice_get items k)) (λ same. other (sym same)))
    ∙ append-nil (range_to plan items j))
    (cases_eq j k)

all_targets : (plan : Gates) → targets (graph_of plan) ≡ keys plan (all_items plan) (length (all_items plan)) ++ map (λ _. TERMINAL) (reports_loads plan plan.parties)
all_targets plan =
    map-append (λ (e : Edge). e.target) (edges_before plan (all_items plan) (length (all_items plan))) (map (edge_to plan TERMINAL) (reports_loads plan plan.parties))
    ∙ ap₂ (λ (xs ys : List ℕ). xs ++ ys) (targets_before plan (all_items plan) (length (all_items plan))) (map_map (λ (e : Edge). e.target) (edge_to plan TERMINAL) (reports_loads plan plan.parties))

few : (plan : Gates) → IsPlan plan → length (all_items plan) < TERMINAL
few plan is = let small = few_items plan (length plan.gates) is (omega arith) in omega (arith, small)

incoming_is : (plan : Gates) (k : ℕ) → IsPlan plan → k < length (all_items plan) → incoming (graph_of plan) k ≡ range_to plan (all_items plan) k
incoming_is plan k is within =
    let items = all_items plan in
    let n = length (all_items plan) in
    ap (places_from 0 k) (all_targets plan)
    ∙ places_append 0 k (keys plan items n) (map (λ _. TERMINAL) (reports_loads plan plan.parties))
    ∙ ap₂ (λ (xs ys : List ℕ). xs ++ ys) (keys_at plan items k n within)
    (places_other (0 + length (keys plan items n)) k TERMINAL (reports_loads plan plan.parties) (λ same. let small = few plan is in absurd (omega (arith, small, within, same))))
    ∙ append-nil (range_to plan items k)

ends_are : (plan : Gates) → IsPlan plan → ends_of (graph_of plan) ≡ run_from (length (loads_before plan (all_items plan) (length (all_items plan)))) (length (reports_loads plan plan.parties))
ends_are plan is =
    let items = all_items plan in
    let n = length (all_items plan) in
    let small = few plan is in
    let start : 0 + length (keys plan items n) ≡ length (loads_before plan items n) = omega (arith, keys_long plan items n) in
    ap (places_from 0 TERMINAL) (all_targets plan)
    ∙ places_append 0 TERMINAL (keys plan items n) (map (λ _. TERMINAL) (reports_loads plan plan.parties))
    ∙ ap₂ (λ (xs ys : List ℕ). xs ++ ys) (keys_below plan items TERMINAL n (omega (arith, small)))
    (places_same (0 + length (keys plan items n)) TERMINAL (reports_loads plan plan.parties) ∙ ap (λ (m : ℕ). run_from m (length (reports_loads plan plan.parties))) start)

-- ---- what they carry

-- values with the meanings of a range of edges are what the loads there are
meant_from : (plan : Gates) (owns : List Own) (first : ℕ) (b : List Load) (vs : List Cargo) → AreMeanings (edge_means plan owns) (run_from first (length b)) vs → ((i : ℕ) (l : Load) → slice_get b i ≡ Some l → slice_get (all_loads plan) (first + i) ≡ Some l) → AreMeant plan owns b vs
meant_from plan owns first [] [] are there = tt
meant_from plan owns first [] (v ∷ vs) are there = absurd are
meant_from plan owns first (l ∷ b) [] are there = absurd are
meant_from plan owns first (l ∷ b) (v ∷ vs) are there =
    let at : first + 0 ≡ first = omega arith in
    let here : slice_get (all_loads plan) first ≡ Some l = ap (slice_get (all_loads plan)) (sym at) ∙ there 0 l refl in (
      subst (λ o. IsMeantAt plan owns o v) here are.0,
      meant_from plan owns (first + 1) b vs are.1
          (λ i m is. let next : first + 1 + i ≡ first + suc i = omega arith in ap (slice_get (all_loads plan)) next ∙ there (suc i) m is),
    )

-- a block stands among the loads of more items
block_there : (plan : Gates) (items : List Item) (j n i : ℕ) (l : Load) → j < n → slice_get (loads_at plan (slice_get items j)) i ≡ Some l → slice_get (loads_before plan items n) (length (loads_before plan items j) + i) ≡ Some l
block_there plan items j zero i l less there = absurd (omega (arith, less))
block_there plan items j (suc n) i l less there =
    ⊎_elim
    (λ (same : j ≡ n).
    subst (λ (m : ℕ). slice_get (loads_before plan items (suc m)) (length (loads_before plan items j) + i) ≡ Some l) same
    (at_right (loads_before plan items j) (loads_at plan (slice_get items j)) i l there))
    (λ (other : j ≢ n). at_left (loads_before plan items n) (loads_at plan (slice_get items n)) _ l (block_there plan items j n i l (omega (arith, less, other)) there))
    (cases_eq j n)

-- what flows into an item
pub inputs_meant : (plan : Gates) (owns : List Own) (k : ℕ) (item : Item) (vs : List Cargo) → IsPlan plan → k < length (all_items plan) → slice_get (all_items plan) k ≡ Some item → AreMeanings (edge_means plan owns) (incoming (graph_of plan) k) vs → AreMeant plan owns (loads_to plan item) vs
inputs_meant plan owns k item vs is within there are =
    let here = subst (λ (es : List ℕ). AreMeanings (edge_means plan owns) es vs) (incoming_is plan k is within) are in
    let block = meant_from plan owns (length (loads_before plan (all_items plan) k)) (loads_at plan (slice_get (all_items plan) k)) vs here
    (λ i l at. at_left (loads_before plan (all_items plan) (length (all_items plan))) (reports_loads plan plan.parties) _ l
    (block_there plan (all_items plan) k (length (all_items plan)) i l within at)) in
    subst (λ o. AreMeant plan owns (loads_at plan o) vs) there block

-- what comes to the end
pub ends_meant : (plan : Gates) (owns : List Own) (vs : List Cargo) → IsPlan plan → AreMeanings (edge_means plan owns) (ends_of (graph_of plan)) vs → AreMeant plan owns (reports_loads plan plan.parties) vs
ends_meant plan owns vs is are =
    let here = subst (λ (es : List ℕ). AreMeanings (edge_means plan owns) es vs) (ends_are plan is) are in
    meant_from plan owns (length (loads_before plan (all_items plan) (length (all_items plan)))) (reports_loads plan plan.parties) vs here
    (λ i l at. at_right (loads_before plan (all_items plan) (length (all_items plan))) (reports_loads plan plan.parties) i l at)

-- ---- where they come from

sources_before : (plan : Gates) (items : List Item) (k : ℕ) → map (λ e. e.source) (edges_before plan items k) ≡ map (λ load. number_of plan (giver plan load)) (loads_before plan items k)
sources_before plan items zero = refl
sources_before plan items (suc k) =
    map-append (λ (e : Edge). e.source) (edges_before plan items k) (map (edge_to plan k) (loads_at plan (slice_get items k)))
    ∙ ap₂ (λ (xs ys : List ℕ). xs ++ ys) (sources_before plan items k) (map_map (λ (e : Edge). e.source) (edge_to plan k) (loads_at plan (slice_get items k)))
    ∙ sym (map-append (λ (load : Load). number_of plan (giver plan load)) (loads_before plan items k) (loads_at plan (slice_get items k)))

pub all_sources : (plan : Gates) → sources (graph_of plan) ≡ map (λ load. number_of plan (giver plan load)) (all_loads plan)
all_sources plan =
    let items = all_items plan in
    let n = length (all_items plan) in
    map-append (λ (e : Edge). e.source) (edges_before plan items n) (map (edge_to plan TERMINAL) (reports_loads plan plan.parties))
    ∙ ap₂ (λ (xs ys : List ℕ). xs ++ ys) (sources_before plan items n) (map_map (λ (e : Edge). e.source) (edge_to plan TERMINAL) (reports_loads plan plan.parties))
    ∙ sym (map-append (λ (load : Load). number_of plan (giver plan load)) (loads_before plan items n) (reports_loads plan plan.parties))
