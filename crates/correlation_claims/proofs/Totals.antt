-- Numbers added up over all views.
use Rattle.std.proofs.Common.{◌≡◌, ◌≢◌, ℕ, zero, suc, ◌+◌, ◌*◌, ◌≤◌, List, [], ◌∷◌, ◌++◌, set, refl, sym, ap, arith}
use mathlib.Core.Option.{some, some-injective, some-ne-none}
use lib.ListN.{get_elem?}
use Rattle.correlation_claims.specs.Steps.{total}

module _ {V : Type 0} where
  -- one view is another
  pub total-set : (f : V → ℕ) (vs : List V) (i : ℕ) (v w : V) → get_elem? vs i ≡ some v → total f (set vs i w) + f v ≡ total f vs + f w
  total-set f [] i v w at = absurd (some-ne-none v (sym at))
  total-set f (x ∷ xs) zero v w at = let e : f x ≡ f v = ap f (some-injective x v at) in omega arith
  total-set f (x ∷ xs) (suc i) v w at = let r = total-set f xs i v w at in omega arith

  -- one view more
  pub total-snoc : (f : V → ℕ) (vs : List V) (w : V) → total f (vs ++ w ∷ []) ≡ total f vs + f w
  total-snoc f [] w = omega arith
  total-snoc f (x ∷ xs) w = let r = total-snoc f xs w in omega arith

  pub one_le : (f : V → ℕ) (vs : List V) (i : ℕ) (v : V) → get_elem? vs i ≡ some v → f v ≤ total f vs
  one_le f [] i v at = absurd (some-ne-none v (sym at))
  one_le f (x ∷ xs) zero v at = let e : f x ≡ f v = ap f (some-injective x v at) in omega arith
  one_le f (x ∷ xs) (suc i) v at = let r = one_le f xs i v at in omega arith

  -- two of the views count no more than all
  pub two_le : (f : V → ℕ) (vs : List V) (i j : ℕ) (v w : V) → i ≢ j → get_elem? vs i ≡ some v → get_elem? vs j ≡ some w → f v + f w ≤ total f vs
  two_le f [] i j v w ne at at' = absurd (some-ne-none v (sym at))
  two_le f (x ∷ xs) zero zero v w ne at at' = absurd (ne refl)
  two_le f (x ∷ xs) zero (suc j) v w ne at at' = let e : f x ≡ f v = ap f (some-injective x v at) in let r = one_le f xs j w at' in omega arith
  two_le f (x ∷ xs) (suc i) zero v w ne at at' = let e : f x ≡ f w = ap f (some-injective x w at') in let r = one_le f xs i v at in omega arith
  two_le f (x ∷ xs) (suc i) (suc j) v w ne at at' = let r = two_le f xs i j v w (λ e. ne (ap suc e)) at at' in omega arith

  -- a bound of each view is a bound of all
  pub total-le : (f g : V → ℕ) (m : ℕ) (vs : List V) → ((i : ℕ) (v : V) → get_elem? vs i ≡ some v → f v ≤ m * g v) → total f vs ≤ m * total g vs
  total-le f g m [] le = omega arith
  total-le f g m (x ∷ xs) le = let here = le 0 x refl in let r = total-le f g m xs (λ i v at. le (suc i) v at) in omega arith

  -- what only views with a part count, and all parts are elsewhere
  none_left : (f g : V → ℕ) (vs : List V) → ((i : ℕ) (v : V) → get_elem? vs i ≡ some v → g v ≡ 0 → f v ≡ 0) → total g vs ≡ 0 → total f vs ≡ 0
  none_left f g [] idle none = refl
  none_left f g (x ∷ xs) idle none = let here = idle 0 x refl (omega arith) in let r = none_left f g xs (λ i v at. idle (suc i) v at) (omega arith) in omega arith

  -- a view with all parts counts all
  pub total_only : (f g : V → ℕ) (vs : List V) (i : ℕ) (v : V) → ((j : ℕ) (w : V) → get_elem? vs j ≡ some w → g w ≡ 0 → f w ≡ 0) → get_elem? vs i ≡ some v → total g vs ≡ g v → total f vs ≡ f v
  total_only f g [] i v idle at all = absurd (some-ne-none v (sym at))
  total_only f g (x ∷ xs) zero v idle at all =
      let e : f x ≡ f v = ap f (some-injective x v at) in let e' : g x ≡ g v = ap g (some-injective x v at) in
      let r = none_left f g xs (λ j w at. idle (suc j) w at) (omega arith) in omega arith
  total_only f g (x ∷ xs) (suc i) v idle at all =
      let le = one_le g xs i v at in let none : g x ≡ 0 = omega arith in let here = idle 0 x refl none in
      let r = total_only f g xs i v (λ j w at. idle (suc j) w at) at (omega arith) in omega arith
