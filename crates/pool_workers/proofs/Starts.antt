-- A pool at its start.
use Rattle.std.proofs.Common.{◌≡◌, ◌≢◌, ℕ, ◌+◌, ◌<◌, ◌≤◌, ◌⊎◌, inl, inr, List, [], ◌∷◌, ◌++◌, length, map, get_or, take, sym, ap, ◌∙◌, subst, arith}
use Rattle.std.specs.Prelude.{min}
use Rattle.std.proofs.lemmas.List.{length_push, get_or_push, get_or_append_left, get_or_default, get_or-map, length-map, take_all}
use mathlib.Core.Logic.{dite}
use native.Mathlib.Decide.{ℕ_discrete}
use Rattle.turn_core.specs.declared.edge.Edge.{Edge}
use Rattle.turn_core.specs.Graph.{Graph, IsSound, source, target, places}
use Rattle.turn_core.proofs.Places.{places-more_same, places-more_other}
use Rattle.task_pool.specs.Meanings.{HasNoOutside}
use Rattle.pool_workers.specs.Sums.{IsForward, IsTarget, target_at, incoming_of}
use Rattle.pool_workers.specs.Words.{AreAtStart, word_at}

known : (x items : ℕ) → (x < items) ⊎ (x ≡ 4294967295) → x ≢ 4294967295 → x < items
known x items (inl low) other = low
known x items (inr is) other = absurd (other is)

pub forward_of : (g : Graph) → IsSound g → HasNoOutside g → IsForward g.items g.edges
forward_of g s inside = record {
  few = (let a = s.items_fit in omega arith, let a = s.edges_fit in omega arith);
  sources = λ e within. known (source g e) g.items (s.sources_known e within) (inside e within);
  targets = λ e within other.
      let to = known (target g e) g.items (s.targets_known e within) other in
      let from = known (source g e) g.items (s.sources_known e within) (inside e within) in
      (s.forward e within from to, to);
}

-- the words of the first k items
pub record AreCounts (edges : List Edge) (k : ℕ) (words : List ℕ) : Type 0 where
  pub many : length words ≡ k
  pub each : (x : ℕ) → x < k → word_at words x ≡ length (incoming_of x edges)

pub counted_more : (edges : List Edge) (k : ℕ) (words more : List ℕ) (n : ℕ) → AreCounts edges k words → more ≡ words ++ n ∷ [] → n ≡ length (incoming_of k edges) → AreCounts edges (k + 1) more
counted_more edges k words more n c is count = record {
  many = ap (λ (l : List ℕ). length l) is ∙ length_push words n ∙ ap (λ (m : ℕ). m + 1) c.many;
  each = λ x low. dite (ℕ_discrete x k)
      (λ same. ap (λ (l : List ℕ). word_at l x) is ∙ get_or_push words n 0 x (c.many ∙ sym same) ∙ count ∙ ap (λ (y : ℕ). length (incoming_of y edges)) (sym same))
      (λ other. ap (λ (l : List ℕ). word_at l x) is ∙ get_or_append_left words (n ∷ []) 0 x (let m = c.many in omega arith) ∙ c.each x (omega arith));
}

pub starts : (items : ℕ) (edges : List Edge) (words more : List ℕ) (n : ℕ) → items ≤ 4294967295 → AreCounts edges items words → more ≡ words ++ n ∷ [] → n ≡ length (incoming_of 4294967295 edges) → AreAtStart items edges more
starts items edges words more n few c is count = record {
  wide = ap (λ (l : List ℕ). length l) is ∙ length_push words n ∙ ap (λ (m : ℕ). m + 1) c.many;
  waits = λ t target. waits_at t target;
}
  where
    waits_at : (t : ℕ) → IsTarget items t → word_at more (min items t) ≡ length (incoming_of t edges)
    waits_at t (inl low) =
        let m : min items t ≡ t = omega arith in
        let here : word_at more t ≡ length (incoming_of t edges) = ap (λ (l : List ℕ). word_at l t) is ∙ get_or_append_left words (n ∷ []) 0 t (let l = c.many in omega arith) ∙ c.each t low in
        subst (λ (j : ℕ). word_at more j ≡ length (incoming_of t edges)) (sym m) here
    waits_at t (inr end) =
        let m : min items t ≡ items = omega arith in
        let here : word_at more items ≡ length (incoming_of t edges) = ap (λ (l : List ℕ). word_at l items) is ∙ get_or_push words n 0 items c.many ∙ count ∙ ap (λ (y : ℕ). length (incoming_of y edges)) (sym end) in
        subst (λ (j : ℕ). word_at more j ≡ length (incoming_of t edges)) (sym m) here

-- ---- where edges end

abbrev pub ends_at : List Edge → List ℕ
ends_at edges = map (λ x. x.target) edges

pub within_is : (edges items : List Edge) (i : ℕ) → items ≡ edges → i < length items → i < length edges
within_is edges items i same within = subst (λ (es : List Edge). i < length es) same within

pub target_is : (edges items : List Edge) (i : ℕ) (d : Edge) → items ≡ edges → i < length items → target_at edges i ≡ (get_or items i d).target
target_is edges items i d same within =
    let short = within_is edges items i same within in
    get_or-map (λ (e : Edge). e.target) edges i d 4294967295 short ∙ ap (λ (es : List Edge). (get_or es i d).target) (sym same)

pub short_ends : (edges : List Edge) (k : ℕ) → k < length edges → k < length (ends_at edges)
short_ends edges k within = let l = length-map edges (λ x. x.target) in omega arith

pub read_end : (edges : List Edge) (k : ℕ) → k < length edges → get_or (ends_at edges) k 0 ≡ target_at edges k
read_end edges k within = get_or_default (ends_at edges) k 0 4294967295 (short_ends edges k within)

pub places_other : (edges : List Edge) (k : ℕ) → k < length edges → target_at edges k ≢ 4294967295 → places 4294967295 (take (k + 1) (ends_at edges)) ≡ places 4294967295 (take k (ends_at edges))
places_other edges k within other = places-more_other 4294967295 (ends_at edges) k (short_ends edges k within) (λ here. other (sym (read_end edges k within) ∙ here))

pub places_same : (edges : List Edge) (k : ℕ) → k < length edges → target_at edges k ≡ 4294967295 → places 4294967295 (take (k + 1) (ends_at edges)) ≡ places 4294967295 (take k (ends_at edges)) ++ k ∷ []
places_same edges k within here = places-more_same 4294967295 (ends_at edges) k (short_ends edges k within) (read_end edges k within ∙ here)

pub ends_other : (edges : List Edge) (k : ℕ) → k < length edges → target_at edges k ≢ 4294967295 → length (places 4294967295 (take (k + 1) (ends_at edges))) ≡ length (places 4294967295 (take k (ends_at edges)))
ends_other edges k within other = ap (λ (l : List ℕ). length l) (places_other edges k within other)

pub ends_same : (edges : List Edge) (k : ℕ) → k < length edges → target_at edges k ≡ 4294967295 → length (places 4294967295 (take (k + 1) (ends_at edges))) ≡ length (places 4294967295 (take k (ends_at edges))) + 1
ends_same edges k within here = ap (λ (l : List ℕ). length l) (places_same edges k within here) ∙ length_push (places 4294967295 (take k (ends_at edges))) k

pub places_all : (edges : List Edge) (k : ℕ) → length edges ≤ k → places 4294967295 (take k (ends_at edges)) ≡ incoming_of 4294967295 edges
places_all edges k long = ap (places 4294967295) (take_all k (ends_at edges) (let l = length-map edges (λ x. x.target) in omega arith))
