-- The lists of an item's edges have them all, and no others.
use Rattle.std.proofs.Common.{◌≡◌, ℕ, List, length, get_or, ap, ◌∙◌, arith}
use Rattle.std.proofs.lemmas.List.{length-map, get_or_default}
use Rattle.turn_core.specs.declared.edge.TheConstants.{OUTSIDE, TERMINAL}
use Rattle.turn_core.specs.Graph.{sources, targets, places}
use Rattle.turn_core.specs.Listings.{IsListOf, EdgesAreListed}
use Rattle.turn_core.proofs.Places.{places-each, places-has, places-rise}

listed : (k : ℕ) (keys : List ℕ) (d bound : ℕ) → length keys ≡ bound → IsListOf bound (λ e. get_or keys e d ≡ k) (places k keys)
listed k keys d bound many = record {
  rising = places-rise k keys;
  within = λ i short. let place = places-each k keys i short in omega (arith, place.is, place.within, many);
  each = λ i short.
      let place = places-each k keys i short in
      let same : get_or (places k keys) i 0 ≡ place.at = omega (arith, place.is) in
      ap (λ (m : ℕ). get_or keys m d) same ∙ place.here d;
  all = λ e below here.
      let stands = places-has k keys e d (omega (arith, below, many)) here in
      (stands.at, stands.within, get_or_default (places k keys) stands.at e 0 stands.within ∙ stands.here);
}

pub edges_listed : EdgesAreListed
edges_listed g k = (
  listed k (sources g) OUTSIDE (length g.edges) (length-map g.edges (λ e. e.source)),
  listed k (targets g) TERMINAL (length g.edges) (length-map g.edges (λ e. e.target)),
)
