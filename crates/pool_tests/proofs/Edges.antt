-- Edges, and the values on them.
use Rattle.std.proofs.Common.{◌≡◌, ◌≢◌, ℕ, zero, suc, ◌+◌, ◌<◌, List, [], ◌∷◌, length, map, get_or, arith, replicate, sym, ap, ◌∙◌, subst}
use Rattle.turn_core.specs.declared.edge.Edge.{Edge}
use Rattle.turn_core.specs.declared.edge.TheConstants.{OUTSIDE}
use Rattle.task_pool.specs.Meanings.{AreMeanings}

-- no edge before a place comes from outside, and then the one there does not
pub next_inside : (edges : List Edge) (n : ℕ) (d : Edge) → n < length edges → ((e : ℕ) → e < n → get_or (map (λ g. g.source) edges) e OUTSIDE ≢ OUTSIDE) → (get_or edges n d).source ≢ OUTSIDE → (e : ℕ) → e < n + 1 → get_or (map (λ g. g.source) edges) e OUTSIDE ≢ OUTSIDE
next_inside [] n d within before here e less = absurd (omega (arith, within))
next_inside (x ∷ xs) zero d within before here zero less = here
next_inside (x ∷ xs) zero d within before here (suc e) less = absurd (omega (arith, less))
next_inside (x ∷ xs) (suc n) d within before here zero less = before 0 (omega arith)
next_inside (x ∷ xs) (suc n) d within before here (suc e) less =
    next_inside xs n d (omega (arith, within)) (λ g l. before (suc g) (omega (arith, l))) here e (omega (arith, less))

copies : (es : List ℕ) (v : ℕ) → AreMeanings (λ e w. Unit {0}) es (replicate (length es) v)
copies [] v = tt
copies (e ∷ es) v = (tt, copies es v)

-- as many values as there are edges mean something, where any value does
pub sent : (es vs xs : List ℕ) (n v : ℕ) → vs ≡ replicate n v → n ≡ length xs → xs ≡ es → AreMeanings (λ e w. Unit {0}) es vs
sent es vs xs n v made count same =
    let all : vs ≡ replicate (length es) v = made ∙ ap (λ k. replicate k v) (count ∙ ap (λ (l : List ℕ). length l) same) in
    subst (λ (l : List ℕ). AreMeanings (λ e w. Unit {0}) es l) (sym all) (copies es v)
