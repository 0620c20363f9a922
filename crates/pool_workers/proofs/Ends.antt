-- The values at the end are picked.
use Rattle.std.proofs.Common.{◌≡◌, ◌≢◌, ℕ, ◌+◌, ◌<◌, ◌≤◌, List, [], ◌∷◌, ◌++◌, length, get_or, set, take, Bool, false, Option, Some, sym, ap, ◌∙◌, subst, arith}
use Rattle.std.proofs.lemmas.List.{get_or-set_same, get_or-set_other}
use Rattle.std.specs.Mem.Slots.Ownership.{Filled}
use mathlib.Core.Logic.{dite}
use native.Mathlib.Decide.{ℕ_discrete}
use mathlib.Core.Option.{some, some-injective}
use lib.ListN.{get_elem?}
use Rattle.atomic_table.specs.Table.{Final, Seen}
use Rattle.turn_core.specs.declared.edge.Edge.{Edge}
use Rattle.turn_core.specs.Graph.{places}
use Rattle.turn_core.proofs.Places.{places-take}
use Rattle.task_pool.specs.Meanings.{AreMeanings}
use Rattle.task_pool.specs.Held.{HasMeaning}
use Rattle.task_pool.proofs.Moves.{as_many}
use Rattle.pool_workers.specs.declared.view.View.{View}
use Rattle.pool_workers.specs.Sums.{target_at, incoming_of}
use Rattle.pool_workers.specs.Slots.{Kept}
use Rattle.pool_workers.specs.Shifts.{Closes, AreEnds}
use Rattle.pool_workers.proofs.Items.{meanings-snoc}
use Rattle.pool_workers.proofs.Starts.{ends_at, places_other, places_same, places_all, ends_same}

pub closes_of : {E : Type 0} (items : ℕ) (edges : List Edge) (means : ℕ → E → Type 0) (words : List ℕ) (id : ℕ) (v : View) (row : List (Option E)) → Final (Seen (Kept items edges means) id v) words row → Closes items edges means v row
closes_of items edges means words id v row f = record {
  state = f.0;
  kept = f.1.0;
  id = id;
  at = f.1.1;
  home = f.4;
}

-- one place more of a row is empty
pub emptied : (old new : List Bool) (i n m : ℕ) → new ≡ set old i false → m ≡ n → n ≡ length old → i < n → Filled old i n → ((k : ℕ) → k < i → get_or old k false ≡ false) → Filled new (i + 1) m × ((k : ℕ) → k < i + 1 → get_or new k false ≡ false)
emptied old new i n m is same many within full empty = (
  (λ k low high. ap (λ (l : List Bool). get_or l k false) is ∙ get_or-set_other old i k false false (λ here. absurd (omega arith)) ∙ full k (omega arith) (omega arith)),
  (λ k low. ap (λ (l : List Bool). get_or l k false) is ∙ dite (ℕ_discrete k i)
      (λ here. ap (λ (j : ℕ). get_or (set old i false) j false) here ∙ get_or-set_same old i false false (omega arith))
      (λ other. get_or-set_other old i k false false other ∙ empty k (omega arith))),
)

-- there is room for one more of the values at the end
pub room_left : (edges : List Edge) (k : ℕ) → k < length edges → target_at edges k ≡ 4294967295 → length (places 4294967295 (take k (ends_at edges))) < length (incoming_of 4294967295 edges)
room_left edges k within end =
    let more = ends_same edges k within end in
    let few = places-take 4294967295 (ends_at edges) (k + 1) in
    omega arith

module _ {E : Type 0} (edges : List Edge) (means : ℕ → E → Type 0) where
  -- the values on those of the first k edges that end at no item
  abbrev pub ArePicked : ℕ → List E → Type 0
  ArePicked k picked = AreMeanings means (places 4294967295 (take k (ends_at edges))) picked

  pub is_end : (row : List (Option E)) (k : ℕ) (value : Option E) → AreEnds edges means row → k < length edges → target_at edges k ≡ 4294967295 → get_elem? row k ≡ some value → HasMeaning means k value
  is_end row k value are within end here =
      let a = are k within end in
      subst (λ (o : Option E). HasMeaning means k o) (some-injective (Some a.0) value (sym a.1 ∙ here)) a.2

  pub picked_other : (k : ℕ) (picked : List E) → k < length edges → target_at edges k ≢ 4294967295 → ArePicked k picked → ArePicked (k + 1) picked
  picked_other k picked within other p = subst (λ (es : List ℕ). AreMeanings means es picked) (sym (places_other edges k within other)) p

  pub picked_same : (k : ℕ) (value : Option E) (v : E) (picked more : List E) → k < length edges → target_at edges k ≡ 4294967295 → HasMeaning means k value → value ≡ Some v → more ≡ picked ++ v ∷ [] → ArePicked k picked → ArePicked (k + 1) more
  picked_same k value v picked more within end mean is more_is p =
      let here : means k v = subst (λ (o : Option E). HasMeaning means k o) is mean in
      subst (λ (vs : List E). AreMeanings means (places 4294967295 (take (k + 1) (ends_at edges))) vs) (sym more_is)
      (subst (λ (es : List ℕ). AreMeanings means es (picked ++ v ∷ [])) (sym (places_same edges k within end))
      (meanings-snoc means (places 4294967295 (take k (ends_at edges))) picked k v p here))

  pub picked_many : (k : ℕ) (picked : List E) → ArePicked k picked → length picked ≡ length (places 4294967295 (take k (ends_at edges)))
  picked_many k picked p = as_many means (places 4294967295 (take k (ends_at edges))) picked p

  pub picked_all : (k : ℕ) (picked : List E) → length edges ≤ k → ArePicked k picked → AreMeanings means (incoming_of 4294967295 edges) picked
  picked_all k picked long p = subst (λ (es : List ℕ). AreMeanings means es picked) (places_all edges k long) p
