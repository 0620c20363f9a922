-- What the lists of an item's edges have.
use Rattle.std.specs.Prelude.{◌≡◌, ℕ, ◌<◌, List, length, get_or, Contains}
use Rattle.turn_core.specs.Graph.{Graph, source, target, outgoing, incoming}

-- the list rises, and has exactly the numbers below a bound of which something holds
pub record IsListOf (bound : ℕ) (Holds : ℕ → Type 0) (list : List ℕ) : Type 0 where
  pub rising : (i j : ℕ) → i < j → j < length list → get_or list i 0 < get_or list j 0
  pub within : (i : ℕ) → i < length list → get_or list i 0 < bound
  pub each : (i : ℕ) → i < length list → Holds (get_or list i 0)
  pub all : (e : ℕ) → e < bound → Holds e → Contains list e

-- the edges that start at an item, and those that end there
abbrev pub EdgesAreListed : Type 0
EdgesAreListed =
    (g : Graph) (k : ℕ) →
    IsListOf (length g.edges) (λ e. source g e ≡ k) (outgoing g k) ×
    IsListOf (length g.edges) (λ e. target g e ≡ k) (incoming g k)
