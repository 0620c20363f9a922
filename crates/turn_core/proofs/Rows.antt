-- The definitions at a few small graphs.
use Rattle.std.proofs.Common.{◌≡◌, ℕ, true, [], ◌∷◌, Some, None, refl, arith}
use Rattle.std.proofs.lemmas.Bool.{false≢true}
use Rattle.turn_core.specs.declared.edge.Edge.{Edge}
use Rattle.turn_core.specs.declared.edge.TheConstants.{TERMINAL}
use Rattle.turn_core.specs.Graph.{Graph, outgoing, incoming, first_bad_end, first_back}
use Rattle.turn_core.specs.Core.{HandsOut, Leaves, IsReady, after_all, at_start, left_of}

abbrev edge : ℕ → ℕ → Edge
edge from into = record { source = from; target = into }

-- item 1 waits for item 0
abbrev pair : Graph
pair = record { items = 2; edges = edge 0 1 ∷ edge 1 TERMINAL ∷ [] }

-- item 0 leads to 1 and twice to 2, and both lead to 3
abbrev diamond : Graph
diamond = record { items = 4; edges = edge 0 2 ∷ edge 2 3 ∷ edge 0 1 ∷ edge 1 3 ∷ edge 0 2 ∷ edge 3 TERMINAL ∷ [] }

from_first : outgoing diamond 0 ≡ 0 ∷ 2 ∷ 4 ∷ []
from_first = refl

into_third : incoming diamond 2 ≡ 0 ∷ 4 ∷ []
into_third = refl

none_back : first_back 4 diamond.edges ≡ None
none_back = refl

goes_back : first_back 2 (edge 1 0 ∷ []) ≡ Some 0
goes_back = refl

bad_end : first_bad_end 2 (edge 1 0 ∷ edge 0 2 ∷ []) ≡ Some 1
bad_end = refl

-- all items of the pair are handed out in turn, and their edges marked
whole : after_all (at_start pair) (HandsOut 0 ∷ Leaves 0 ∷ HandsOut 1 ∷ Leaves 1 ∷ []) ≡ record { graph = pair; marked = true ∷ true ∷ []; handed = true ∷ true ∷ [] }
whole = refl

two_left : left_of (at_start pair).handed ≡ 2
two_left = refl

one_waits : IsReady (at_start pair) 1 → ⊥
one_waits ready = false≢true (ready.has_all 0 (omega arith) refl)
