-- The core: a set of marked edges and a set of items that were handed out, and the events that change them.
use Rattle.std.specs.Prelude.{◌≡◌, ◌≢◌, ℕ, ◌<◌, ◌⊎◌, Bool, true, false, not, List, [], ◌∷◌, length, get_or, slice_set, replicate}
use Rattle.std.specs.List.{count_by, fold}
use Rattle.turn_core.specs.declared.edge.TheConstants.{OUTSIDE}
use Rattle.turn_core.specs.Graph.{Graph, IsSound, source, target}

-- a set of numbers: a flag for each number, up where the number is in the set
abbrev pub Flags : Type 0
Flags = List Bool

-- a number is in the set, and is not
abbrev pub IsIn : Flags → ℕ → Type 0
IsIn s k = get_or s k false ≡ true

abbrev pub IsOut : Flags → ℕ → Type 0
IsOut s k = get_or s k false ≡ false

-- the set and one number more
abbrev pub with_one : Flags → ℕ → Flags
with_one s k = slice_set s k true

-- how many numbers are in the set, and how many are not
abbrev pub size_of : Flags → ℕ
size_of s = count_by (λ flag. flag) s

abbrev pub left_of : Flags → ℕ
left_of s = count_by not s

-- a state: the edges that are marked, and the items that were handed out
pub record Core : Type 0 where
  pub graph : Graph
  pub marked : Flags
  pub handed : Flags

-- the empty state
abbrev pub at_start : Graph → Core
at_start g =
    record { graph = g; marked = replicate (length g.edges) false; handed = replicate g.items false }

-- an edge from outside is marked, an item is handed out, and an edge that starts at such an item is marked
pub data Event : Type 0 where
  Arrives : ℕ → Event
  HandsOut : ℕ → Event
  Leaves : ℕ → Event

-- every edge that ends at the item is marked
abbrev pub HasAll : Core → ℕ → Type 0
HasAll c k = (e : ℕ) → e < length c.graph.edges → target c.graph e ≡ k → IsIn c.marked e

-- the item may be handed out
pub record IsReady (c : Core) (k : ℕ) : Type 0 where
  pub is_item : k < c.graph.items
  pub is_new : IsOut c.handed k
  pub has_all : HasAll c k

-- when an event may come
abbrev pub May : Core → Event → Type 0
May c (Arrives e) = (e < length c.graph.edges) × (source c.graph e ≡ OUTSIDE)
May c (HandsOut k) = IsReady c k
May c (Leaves e) = (e < length c.graph.edges) × IsIn c.handed (source c.graph e)

-- the state after an event
abbrev pub after : Core → Event → Core
after c (Arrives e) = record c { marked = with_one c.marked e }
after c (HandsOut k) = record c { handed = with_one c.handed k }
after c (Leaves e) = record c { marked = with_one c.marked e }

-- the state after a list of events
abbrev pub after_all : Core → List Event → Core
after_all c events = fold after c events

-- each event of the list may come when its turn is there
abbrev pub IsRun : Core → List Event → Type 0
IsRun c [] = Unit {0}
IsRun c (event ∷ events) = May c event × IsRun (after c event) events

-- the events lead from one state to another
abbrev pub Leads : Core → List Event → Core → Type 0
Leads old events new = IsRun old events × (new ≡ after_all old events)

-- some events lead to the state from the empty one
abbrev pub IsReached : Core → Type 0
IsReached c = (events : List Event) × Leads (at_start c.graph) events c

-- what holds of every state that is reached in a sound graph: a marked edge comes from outside, or from an
-- item that was handed out
pub record IsCore (c : Core) : Type 0 where
  pub sound : IsSound c.graph
  pub edges : length c.marked ≡ length c.graph.edges
  pub items : length c.handed ≡ c.graph.items
  pub begun : (e : ℕ) → IsIn c.marked e → (source c.graph e ≡ OUTSIDE) ⊎ IsIn c.handed (source c.graph e)
  pub reached : IsReached c

-- between two states exactly the edges that start at the item were marked
pub record MarksFrom (old new : Core) (k : ℕ) : Type 0 where
  pub graph : new.graph ≡ old.graph
  pub handed : new.handed ≡ old.handed
  pub own : (e : ℕ) → e < length old.graph.edges → source old.graph e ≡ k → IsIn new.marked e
  pub others : (e : ℕ) → source old.graph e ≢ k → get_or new.marked e false ≡ get_or old.marked e false

-- each edge from outside is marked, and each edge from an item that was handed out
abbrev pub IsSettled : Core → Type 0
IsSettled c =
    (e : ℕ) → e < length c.graph.edges →
    (source c.graph e ≡ OUTSIDE) ⊎ IsIn c.handed (source c.graph e) → IsIn c.marked e

-- each edge that ends at the item comes from outside or from an item of the set
abbrev pub HasInputs : Graph → Flags → ℕ → Type 0
HasInputs g turned k =
    (e : ℕ) → e < length g.edges → target g e ≡ k → (source g e ≡ OUTSIDE) ⊎ IsIn turned (source g e)

-- of a settled core in which no item may be handed out, every item was handed out
abbrev pub NothingIsLeft : Type 0
NothingIsLeft =
    (c : Core) → IsCore c → IsSettled c → ((k : ℕ) → IsReady c k → ⊥)
    → (k : ℕ) → k < c.graph.items → IsIn c.handed k
