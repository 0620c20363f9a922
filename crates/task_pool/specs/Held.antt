-- Values that wait in a slot for each edge.
use Rattle.std.specs.Prelude.{◌≡◌, ◌≢◌, ℕ, ◌<◌, Bool, false, List, length, map, get_or, Option, Some, None}
use Rattle.turn_core.specs.Graph.{Graph, IsSound, source, target}
use Rattle.turn_core.specs.Core.{Flags, IsIn, IsOut}
use Rattle.task_pool.specs.Meanings.{HasNoOutside}

-- the slot has the meaning of the edge of this number
abbrev pub HasMeaning : {E : Type 0} → (ℕ → E → Type 0) → ℕ → Option E → Type 0
HasMeaning means e None = ⊥
HasMeaning means e (Some v) = means e v

-- what stands in the slots of these edges
abbrev pub in_slots : {E : Type 0} → List (Option E) → List ℕ → List (Option E)
in_slots slots es = map (λ e. get_or slots e None) es

-- no number twice, and all below a bound
abbrev pub AreDistinct : List ℕ → Type 0
AreDistinct es = (i j : ℕ) → i < j → j < length es → get_or es i 0 ≢ get_or es j 0

abbrev pub AreBelow : ℕ → List ℕ → Type 0
AreBelow n es = (i : ℕ) → i < length es → get_or es i 0 < n

-- the slots of these edges have something
abbrev pub AreFull : {E : Type 0} → List (Option E) → List ℕ → Type 0
AreFull slots es = (i : ℕ) → i < length es → get_or slots (get_or es i 0) None ≢ None

-- the slots of all other edges are as they were
abbrev pub OthersStay : {E : Type 0} → List ℕ → List (Option E) → List (Option E) → Type 0
OthersStay es old new =
    (k : ℕ) → ((i : ℕ) → i < length es → get_or es i 0 ≢ k) → get_or new k None ≡ get_or old k None

-- each edge that leaves a turned item, and does not end at one, has its meaning in its slot
abbrev pub IsHeld : {E : Type 0} → (ℕ → E → Type 0) → Graph → Flags → List (Option E) → Type 0
IsHeld means g turned slots =
    (e : ℕ) → e < length g.edges → IsIn turned (source g e) → IsOut turned (target g e) →
    HasMeaning means e (get_or slots e None)

-- a work whose items are turned: the work, the graph, the items that were turned, and whether memory was wanting
pub record Held (W : Type 0) : Type 0 where
  pub work : W
  pub graph : Graph
  pub turned : Flags
  pub wanting : Bool

-- what holds of it
pub record IsHolding {E : Type 0}
    (own : Graph) (means : ℕ → E → Type 0) (g : Graph) (turned : Flags)
    (slots : List (Option E)) (wanting : Bool) : Type 0 where
  pub same : own ≡ g
  pub sound : IsSound g
  pub inside : HasNoOutside g
  pub items : length turned ≡ g.items
  pub as_many : length slots ≡ length g.edges
  pub held : wanting ≡ false → IsHeld means g turned slots
