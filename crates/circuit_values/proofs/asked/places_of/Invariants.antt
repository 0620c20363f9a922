use Rattle.std.proofs.Common.{◌≡◌, ℕ, List, take}
use Rattle.std.specs.Ordering.{nat_cmp}
use Rattle.std.specs.Cmp.Lexicographic.{slice_cmp}
use Rattle.std.specs.BTreeMap.{get_by}
use Rattle.circuit_values.specs.Values.{place_asked}
use Rattle.circuit_values.proofs.asked.places_of.Given as goal

abbrev pub invariant-loop-at : goal.invariant-loop-at
invariant-loop-at l = (name : List ℕ) → get_by (λ key. slice_cmp nat_cmp name key.now) l.places ≡ place_asked l.owner (take l.at l.inputs) name
