-- What each step of a worker tells it.
use Rattle.std.specs.Prelude.{◌≡◌, ◌≢◌, ℕ, ◌<◌, ◌≤◌, Bool, true, false, List}
use Rattle.std.specs.Prelude.{[], ◌∷◌, ◌++◌, length, map, drop, Option, Some, None}
use Rattle.atomic_table.specs.Table.{Me, rest}
use Rattle.turn_core.specs.declared.edge.Edge.{Edge}
use Rattle.pool_workers.specs.declared.view.View.{View}
use Rattle.pool_workers.specs.Sums.{times, missing, IsTarget, source_at, target_at, incoming_of, outgoing_of}
use Rattle.pool_workers.specs.Words.{view, left, taken_word, all_parts, with_item, with_edge}

-- the slots of an item, those of its incoming edges first
abbrev pub keys_of : ℕ → List Edge → List ℕ
keys_of item edges = incoming_of item edges ++ outgoing_of item edges

-- slots with what is in them
abbrev pub held : {E : Type 0} → (ℕ → Option E) → List ℕ → List (ℕ × Option E)
held f ks = map (λ k. (k, f k)) ks

-- what a worker has in its slots once it took an item: the meanings of the incoming edges, and empty
-- slots for the outgoing ones
pub record Inputs {E : Type 0} (edges : List Edge) (means : ℕ → E → Type 0) (item : ℕ)
    (f : ℕ → Option E) : Type 0 where
  pub full : (k : ℕ) → k < length edges → target_at edges k ≡ item →
      (y : E) × (f k ≡ Some y) × means k y
  pub empty : (k : ℕ) → k < length edges → source_at edges k ≡ item → f k ≡ None

-- the step that takes an item, by a compare-exchange from 0
pub record Taking {E : Type 0} (edges : List Edge) (means : ℕ → E → Type 0) (item : ℕ)
    (me : Me (Option E) View) (n : ℕ) (after : Me (Option E) View) : Type 0 where
  pub hit : n ≡ 0 → (after.0 ≡ with_item me.0 item) × (f : ℕ → Option E)
      × (after.1 ≡ held f (keys_of item edges) ++ me.1) × Inputs edges means item f
  pub miss : n ≢ 0 → after ≡ me
  pub fresh : n ≡ 0 → times item me.0.took ≡ 0
  pub last : missing item 0 edges (λ e. times e me.0.gave) ≡ 0 → left n ≡ 0
  pub mine : me.0.parts ≡ all_parts → n ≡ taken_word → times item me.0.took ≡ 1

-- the step that gives an edge: that of the slot that the worker took last
abbrev pub Giving : {E : Type 0} → Me (Option E) View → Me (Option E) View → Type 0
Giving {E} me after = (e : ℕ) (y : Option E) (others : List (ℕ × Option E)) →
    me.1 ≡ (e, y) ∷ others → after ≡ (with_edge me.0 e, others)

-- the step that gives an emptied slot back
abbrev pub Returning : {E : Type 0} → Me (Option E) View → Me (Option E) View → Type 0
Returning {E} me after = (p : ℕ × Option E) (others : List (ℕ × Option E)) →
    me.1 ≡ p ∷ others → after ≡ (me.0, others)

-- the slot that a worker took last
abbrev pub IsTop : {S : Type 0} → ℕ → List (ℕ × S) → Type 0
IsTop {S} e c = (y : S) × (c ≡ (e, y) ∷ rest c)

-- what a worker has in its slots once it has read the first k inputs of an item
pub record Holding {E : Type 0} (edges : List Edge) (means : ℕ → E → Type 0) (item k : ℕ)
    (c : List (ℕ × Option E)) : Type 0 where
  pub f : ℕ → Option E
  pub is : c ≡ held f (drop k (incoming_of item edges) ++ outgoing_of item edges)
  pub inputs : Inputs edges means item f

abbrev pub empties : {E : Type 0} → List ℕ → List (ℕ × Option E)
empties ks = map (λ k. (k, None)) ks

abbrev pub with_edges : View → List ℕ → View
with_edges v es = view v.parts v.took (v.gave ++ es)

-- each edge of a taken item was given
abbrev pub Complete : List Edge → View → Type 0
Complete edges v =
    (e : ℕ) → e < length edges → times e v.gave ≡ times (source_at edges e) v.took

-- two relations say the same
abbrev pub Agree : {E : Type 0} → (ℕ → E → Type 0) → (ℕ → E → Type 0) → Type 0
Agree {E} m n = (e : ℕ) (x : E) → (m e x → n e x) × (n e x → m e x)

-- a worker between two items: it holds no slot, and gave each edge of each item that it took
abbrev pub IsIdle : {E : Type 0} → List Edge → Me (Option E) View → Type 0
IsIdle edges me = (me.1 ≡ []) × (0 < me.0.parts) × Complete edges me.0

-- what a worker took, after it tried to take an item
abbrev pub Tried : Bool → ℕ → View → View → Type 0
Tried true item v w = w.took ≡ v.took ++ item ∷ []
Tried false item v w = w.took ≡ v.took

-- when a worker may give an edge: it took the source, and did not give the edge yet
pub record MayGive (items : ℕ) (edges : List Edge) (v : View) (e : ℕ) : Type 0 where
  pub few : items ≤ 4294967295
  pub within : e < length edges
  pub some_part : 0 < v.parts
  pub source : source_at edges e < items
  pub target : IsTarget items (target_at edges e)
  pub took : 1 ≤ times (source_at edges e) v.took
  pub none : times e v.gave ≡ 0
