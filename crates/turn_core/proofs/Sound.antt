-- Edges against which nothing stands make a sound graph.
use Rattle.std.proofs.Common.{◌≡◌, ℕ, ◌+◌, ◌<◌, ◌≤◌, ◌^◌, ◌⊎◌, Bool, true, false, eqb, ltb, leb, ◌&&◌, ◌||◌, List, length, get_or, map, Some, None, refl, sym, subst, arith, inl, inr, ⊎_elim}
use Rattle.std.specs.List.{position, position_or_len}
use Rattle.std.proofs.lemmas.Bool.{both_ways, ltb-true, ltb-false, eqb-true, lt-ltb, le-leb, and_from, not-false, and_parts, or_cases, cases_lt, cases_Bool}
use Rattle.std.proofs.lemmas.List.{get_or-map}
use Rattle.std.proofs.lemmas.List.Sums.{fails_before_first}
use Rattle.turn_core.specs.declared.edge.Edge.{Edge}
use Rattle.turn_core.specs.declared.edge.TheConstants.{OUTSIDE, TERMINAL}
use Rattle.turn_core.specs.Graph.{Graph, has_bad_end, goes_back, first_bad_end, first_back, IsSound}

-- no edge passes a test of which there is no first place
position-none : (test : Edge → Bool) (edges : List Edge) (e : ℕ) (d : Edge) → position test edges ≡ None → e < length edges → test (get_or edges e d) ≡ false
position-none test edges e d nowhere within =
    let first = position_or_len test edges in
    ⊎_elim
    (λ (here : ltb first (length edges) ≡ true). absurd (let some : position test edges ≡ Some first = rw here refl in cc))
    (λ (past : ltb first (length edges) ≡ false). fails_before_first test edges e d (omega (arith, ltb-false first (length edges) past, within)))
    (cases_Bool (ltb first (length edges)))

-- an end that is known is an item or outside
known : (items end outside : ℕ) → (ltb end items || eqb end outside) ≡ true → (end < items) ⊎ (end ≡ outside)
known items end outside test =
    ⊎_elim
    (λ (item : ltb end items ≡ true). inl (ltb-true end items item))
    (λ (out : eqb end outside ≡ true). inr (eqb-true end outside out))
    (or_cases (ltb end items) (eqb end outside) test)

-- what the edges' tests say of one of them
record IsFine (items : ℕ) (edge : Edge) : Type 0 where
  starts : (edge.source < items) ⊎ (edge.source ≡ OUTSIDE)
  ends : (edge.target < items) ⊎ (edge.target ≡ TERMINAL)
  rises : edge.source < items → edge.target < items → edge.source < edge.target

is_fine : (items : ℕ) (edge : Edge) → has_bad_end items edge ≡ false → goes_back items edge ≡ false → IsFine items edge
is_fine items edge good ahead =
    let both = and_parts (ltb edge.source items || eqb edge.source OUTSIDE) (ltb edge.target items || eqb edge.target TERMINAL)
    (not-false ((ltb edge.source items || eqb edge.source OUTSIDE) && (ltb edge.target items || eqb edge.target TERMINAL)) good) in
    record {
      starts = known items edge.source OUTSIDE both.0;
      ends = known items edge.target TERMINAL both.1;
      rises = λ from into.
          ⊎_elim
          (λ (less : edge.source < edge.target). less)
          (λ (more : edge.target ≤ edge.source).
          absurd (both_ways (goes_back items edge) ahead
          (and_from (ltb edge.source items) (ltb edge.target items && leb edge.target edge.source) (lt-ltb edge.source items from)
          (and_from (ltb edge.target items) (leb edge.target edge.source) (lt-ltb edge.target items into) (le-leb edge.target edge.source more)))))
          (cases_lt edge.source edge.target);
    }

-- a default edge
nowhere : Edge
nowhere = record { source = OUTSIDE; target = TERMINAL }

each_fine : (items : ℕ) (edges : List Edge) → first_bad_end items edges ≡ None → first_back items edges ≡ None → (e : ℕ) → e < length edges → IsFine items (get_or edges e nowhere)
each_fine items edges good ahead e within =
    is_fine items (get_or edges e nowhere)
    (position-none (has_bad_end items) edges e nowhere good within)
    (position-none (goes_back items) edges e nowhere ahead within)

pub sound : (items : ℕ) (edges : List Edge) → items < 2 ^ 32 → length edges + 1 < 2 ^ 32 → first_bad_end items edges ≡ None → first_back items edges ≡ None → IsSound (record { items = items; edges = edges })
sound items edges few_items few good ahead = record {
  items_fit = few_items;
  edges_fit = few;
  sources_known = λ e within. subst (λ (s : ℕ). (s < items) ⊎ (s ≡ OUTSIDE)) (sym (from e within)) (each_fine items edges good ahead e within).starts;
  targets_known = λ e within. subst (λ (t : ℕ). (t < items) ⊎ (t ≡ TERMINAL)) (sym (into e within)) (each_fine items edges good ahead e within).ends;
  forward = λ e within s t. rises e within s t;
}
  where
    g : Graph
    g = record { items = items; edges = edges }

    from : (e : ℕ) → e < length edges → get_or (map (λ (edge : Edge). edge.source) edges) e OUTSIDE ≡ (get_or edges e nowhere).source
    from e within = get_or-map (λ (edge : Edge). edge.source) edges e nowhere OUTSIDE within

    into : (e : ℕ) → e < length edges → get_or (map (λ (edge : Edge). edge.target) edges) e TERMINAL ≡ (get_or edges e nowhere).target
    into e within = get_or-map (λ (edge : Edge). edge.target) edges e nowhere TERMINAL within

    rises : (e : ℕ) → e < length edges → get_or (map (λ (edge : Edge). edge.source) edges) e OUTSIDE < items → get_or (map (λ (edge : Edge). edge.target) edges) e TERMINAL < items → get_or (map (λ (edge : Edge). edge.source) edges) e OUTSIDE < get_or (map (λ (edge : Edge). edge.target) edges) e TERMINAL
    rises e within s t =
        let fine = each_fine items edges good ahead e within in
        let less = fine.rises (omega (arith, from e within, s)) (omega (arith, into e within, t)) in
        omega (arith, from e within, into e within, less)
