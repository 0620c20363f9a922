-- A graph of items and edges, and what makes it sound.
use Rattle.std.specs.Prelude.{◌≡◌, ℕ, ◌+◌, ◌<◌, ◌^◌, ◌⊎◌, ◌==◌, ◌&&◌, ◌||◌, Bool, not, nat_lt, nat_le, if◌then◌else◌, List, [], ◌∷◌, length, map, get_or, Option, position}
use Rattle.turn_core.specs.declared.edge.Edge.{Edge}
use Rattle.turn_core.specs.declared.edge.TheConstants.{OUTSIDE, TERMINAL}

-- so many items, numbered from 0, and the edges, numbered by their places
pub record Graph : Type 0 where
  pub items : ℕ
  pub edges : List Edge

-- where each edge starts, and where each ends
abbrev pub sources : Graph → List ℕ
sources g = map (λ e. e.source) g.edges

abbrev pub targets : Graph → List ℕ
targets g = map (λ e. e.target) g.edges

-- where the edge of this number starts, and where it ends
abbrev pub source : Graph → ℕ → ℕ
source g e = get_or (sources g) e OUTSIDE

abbrev pub target : Graph → ℕ → ℕ
target g e = get_or (targets g) e TERMINAL

-- the places at which a number stands in a list, in rising order, where the first place counts as `first`
abbrev pub places_from : ℕ → ℕ → List ℕ → List ℕ
places_from first k [] = []
places_from first k (x ∷ xs) =
    if x == k then first ∷ places_from (first + 1) k xs else places_from (first + 1) k xs

-- the places at which a number stands in a list, in rising order
abbrev pub places : ℕ → List ℕ → List ℕ
places k xs = places_from 0 k xs

-- the numbers of the edges that start at an item, and of those that end there, in rising order
abbrev pub outgoing : Graph → ℕ → List ℕ
outgoing g k = places k (sources g)

abbrev pub incoming : Graph → ℕ → List ℕ
incoming g k = places k (targets g)

-- the edge starts or ends at what is neither an item nor outside
abbrev pub has_bad_end : ℕ → Edge → Bool
has_bad_end items e =
    not ((nat_lt e.source items || e.source == OUTSIDE) && (nat_lt e.target items || e.target == TERMINAL))

-- the edge leads from an item to itself or to one before it
abbrev pub goes_back : ℕ → Edge → Bool
goes_back items e = nat_lt e.source items && (nat_lt e.target items && nat_le e.target e.source)

-- the first edge with a bad end, and the first that goes back
abbrev pub first_bad_end : ℕ → List Edge → Option ℕ
first_bad_end items edges = position (has_bad_end items) edges

abbrev pub first_back : ℕ → List Edge → Option ℕ
first_back items edges = position (goes_back items) edges

-- each edge starts and ends at an item or outside, and goes forward
pub record IsSound (g : Graph) : Type 0 where
  pub items_fit : g.items < 2 ^ 32
  pub edges_fit : length g.edges + 1 < 2 ^ 32
  pub sources_known : (e : ℕ) → e < length g.edges → (source g e < g.items) ⊎ (source g e ≡ OUTSIDE)
  pub targets_known : (e : ℕ) → e < length g.edges → (target g e < g.items) ⊎ (target g e ≡ TERMINAL)
  pub forward : (e : ℕ) → e < length g.edges →
      source g e < g.items → target g e < g.items → source g e < target g e
