-- How often numbers stand in lists, and a graph of items as the pool sees it.
use Rattle.std.specs.Prelude.{◌≡◌, ◌≢◌, ℕ, suc, ◌+◌, ◌<◌, ◌≤◌, ◌==◌, ◌&&◌}
use Rattle.std.specs.Prelude.{Bool, true, false, List, [], ◌∷◌, length, map, get_or, ◌⊎◌}
use Rattle.turn_core.specs.declared.edge.Edge.{Edge}
use Rattle.turn_core.specs.declared.edge.TheConstants.{OUTSIDE, TERMINAL}
use Rattle.turn_core.specs.Graph.{places}

abbrev pub once : Bool → ℕ
once true = 1
once false = 0

-- how often a number stands in a list, and in a list of lists
abbrev pub times : ℕ → List ℕ → ℕ
times x [] = 0
times x (y ∷ ys) = once (x == y) + times x ys

abbrev pub times_in : ℕ → List (List ℕ) → ℕ
times_in x [] = 0
times_in x (ys ∷ yss) = times x ys + times_in x yss

-- where an edge starts, and where it ends
abbrev pub source_at : List Edge → ℕ → ℕ
source_at edges e = get_or (map (λ x. x.source) edges) e OUTSIDE

abbrev pub target_at : List Edge → ℕ → ℕ
target_at edges e = get_or (map (λ x. x.target) edges) e TERMINAL

-- the edges that end at an item, and those that start there
abbrev pub incoming_of : ℕ → List Edge → List ℕ
incoming_of item edges = places item (map (λ x. x.target) edges)

abbrev pub outgoing_of : ℕ → List Edge → List ℕ
outgoing_of item edges = places item (map (λ x. x.source) edges)

-- each edge starts at an item, and ends at a later item or outside
pub record IsForward (items : ℕ) (edges : List Edge) : Type 0 where
  pub few : (items ≤ 4294967295) × (length edges < 4294967295)
  pub sources : (e : ℕ) → e < length edges → source_at edges e < items
  pub targets : (e : ℕ) → e < length edges → target_at edges e ≢ 4294967295 →
      (source_at edges e < target_at edges e) × (target_at edges e < items)

-- of the edges from the k-th on, how many end at t and are not given, where f counts the givers
abbrev pub missing : ℕ → ℕ → List Edge → (ℕ → ℕ) → ℕ
missing t k [] f = 0
missing t k (e ∷ es) f = once ((e.target == t) && (f k == 0)) + missing t (suc k) es f

-- an item or the end
abbrev pub IsTarget : ℕ → ℕ → Type 0
IsTarget items t = (t < items) ⊎ (t ≡ 4294967295)
