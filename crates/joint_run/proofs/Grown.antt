-- Lists that grow by one at a time, and what stands at a place of a list.
use Rattle.std.proofs.Common.{ℕ, zero, suc, ◌≡◌, ◌<◌, ◌+◌, List, [], ◌∷◌, ◌++◌, length, map, Some, inl, inr, refl, sym, ◌∙◌, ap, subst, arith}
use Rattle.std.specs.Prelude.{slice_get, get_or}
use Rattle.std.proofs.lemmas.List.{length-append}
use Rattle.std.proofs.lemmas.Bool.{cases_lt}
use Rattle.share_types.specs.Sums.{total, sum_to}
use Rattle.mot_base.proofs.Lists.{last_at, before_at, same_some as some_is}

pub got : {X : Type 0} (xs : List X) (k : ℕ) (x d : X) → slice_get xs k ≡ Some x → get_or xs k d ≡ x
got [] k x d there = cc
got (y ∷ xs) zero x d there = some_is y x there
got (y ∷ xs) (suc k) x d there = got xs k x d there

pub there_is : {X : Type 0} (xs : List X) (k : ℕ) (d : X) → k < length xs → slice_get xs k ≡ Some (get_or xs k d)
there_is [] k d h = absurd (omega (arith, h))
there_is (x ∷ xs) zero d h = refl
there_is (x ∷ xs) (suc k) d h = there_is xs k d (omega (arith, h))

module _ {X : Type 0} (grown : ℕ → List X) (next : ℕ → X) (none : grown zero ≡ []) (more : (g : ℕ) → grown (suc g) ≡ grown g ++ next g ∷ []) where
  pub grown-length : (g : ℕ) → length (grown g) ≡ g
  grown-length zero = ap length none
  grown-length (suc g) =
      let before = grown-length g in
      ap length (more g) ∙ (length-append (grown g) (next g ∷ []) ∙ omega (arith, before))

  pub grown-get : (g k : ℕ) → k < g → slice_get (grown g) k ≡ Some (next k)
  grown-get zero k h = absurd (omega (arith, h))
  grown-get (suc g) k h = ap (λ xs. slice_get xs k) (more g) ∙ elim (cases_lt k g) as (λ _. slice_get (grown g ++ next g ∷ []) k ≡ Some (next k)) [
    | inl small ↦ before_at (grown g) (next g ∷ []) k (subst (λ n. k < n) (sym (grown-length g)) small) ∙ grown-get g k small
    | inr large ↦
        (let here : k ≡ g = omega (arith, h, large) in
        ap (slice_get (grown g ++ next g ∷ [])) (here ∙ sym (grown-length g)) ∙ (last_at (grown g) (next g) ∙ ap (λ j. Some (next j)) (sym here)))
  ]

pub map_map : {X Y Z : Type 0} (f : Y → Z) (h : X → Y) (xs : List X) → map f (map h xs) ≡ map (λ x. f (h x)) xs
map_map f h [] = refl
map_map f h (x ∷ xs) = ap (λ ys. f (h x) ∷ ys) (map_map f h xs)

sum_first : (n : ℕ) (f : ℕ → ℕ) → sum_to (suc n) f ≡ f 0 + sum_to n (λ p. f (suc p))
sum_first zero f = omega arith
sum_first (suc n) f = let before = sum_first n f in omega (arith, before)

-- a total of a list as a sum over places
pub total_is : {X : Type 0} (f : X → ℕ) (xs : List X) (d : X) → total (map f xs) ≡ sum_to (length xs) (λ p. f (get_or xs p d))
total_is f [] d = refl
total_is f (x ∷ xs) d =
    ap (λ t. f x + t) (total_is f xs d) ∙ sym (sum_first (length xs) (λ p. f (get_or (x ∷ xs) p d)))
