-- Values that are the meanings of edges.
use Rattle.std.specs.Prelude.{◌≢◌, ℕ, ◌<◌, List, [], ◌∷◌, length}
use Rattle.turn_core.specs.declared.edge.TheConstants.{OUTSIDE, TERMINAL}
use Rattle.turn_core.specs.Graph.{Graph, source, incoming}

-- the values are the meanings of these edges, one after another
abbrev pub AreMeanings : {E : Type 0} → (ℕ → E → Type 0) → List ℕ → List E → Type 0
AreMeanings means [] [] = Unit {0}
AreMeanings means (e ∷ es) (v ∷ vs) = means e v × AreMeanings means es vs
AreMeanings means [] (v ∷ vs) = ⊥
AreMeanings means (e ∷ es) [] = ⊥

-- the edges that end at no item, in rising order
abbrev pub ends_of : Graph → List ℕ
ends_of g = incoming g TERMINAL

-- no edge comes from outside
abbrev pub HasNoOutside : Graph → Type 0
HasNoOutside g = (e : ℕ) → e < length g.edges → source g e ≢ OUTSIDE
