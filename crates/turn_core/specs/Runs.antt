-- A law over lists of events, in whatever order they come.
use Rattle.std.specs.Prelude.{◌≡◌, ℕ, ◌<◌, ◌≤◌, ◌⊎◌, ◌==◌, Bool, true, false, List, ◌∷◌, ◌++◌, length, get_or}
use Rattle.std.specs.List.{count_by, list_any}
use Rattle.turn_core.specs.declared.edge.TheConstants.{OUTSIDE}
use Rattle.turn_core.specs.Graph.{Graph, IsSound, source, target}
use Rattle.turn_core.specs.Core.{Event, Arrives, HandsOut, Leaves, at_start, after_all, IsRun}

-- whether an event hands the item out
abbrev pub hands_out : ℕ → Event → Bool
hands_out k (Arrives e) = false
hands_out k (HandsOut j) = j == k
hands_out k (Leaves e) = false

-- whether an event marks the edge
abbrev pub marks : ℕ → Event → Bool
marks e (Arrives j) = j == e
marks e (HandsOut k) = false
marks e (Leaves j) = j == e

-- the item is handed out by one of the events, and the edge is marked by one
abbrev pub IsHandedOutIn : ℕ → List Event → Type 0
IsHandedOutIn k events = list_any (hands_out k) events ≡ true

abbrev pub IsMarkedIn : ℕ → List Event → Type 0
IsMarkedIn e events = list_any (marks e) events ≡ true

-- no item is handed out twice; before an item is handed out each edge to it was marked, and each item from
-- which such an edge comes was handed out, and has a lower number; and the sets are those of the events
pub record KeepsOrder (g : Graph) (events : List Event) : Type 0 where
  pub once : (k : ℕ) → count_by (hands_out k) events ≤ 1
  pub edges_first : (before behind : List Event) (k e : ℕ) → events ≡ before ++ (HandsOut k ∷ behind) →
      e < length g.edges → target g e ≡ k → IsMarkedIn e before
  pub items_first : (before behind : List Event) (k e : ℕ) → events ≡ before ++ (HandsOut k ∷ behind) →
      e < length g.edges → target g e ≡ k →
      (source g e ≡ OUTSIDE) ⊎ ((source g e < k) × IsHandedOutIn (source g e) before)
  pub handed : (k : ℕ) →
      get_or (after_all (at_start g) events).handed k false ≡ list_any (hands_out k) events
  pub marked : (e : ℕ) →
      get_or (after_all (at_start g) events).marked e false ≡ list_any (marks e) events

-- every list of events from the empty state of a sound graph keeps this order
abbrev pub RunsKeepOrder : Type 0
RunsKeepOrder =
    (g : Graph) (events : List Event) → IsSound g → IsRun (at_start g) events → KeepsOrder g events
