-- Sums over views.
use Rattle.std.proofs.Common.{◌≡◌, ℕ, zero, suc, ◌+◌, ◌≤◌, List, [], ◌∷◌, ◌++◌, set, refl, sym, ap, arith}
use mathlib.Core.Option.{some, some-injective, some-ne-none}
use lib.ListN.{get_elem?}
use Rattle.pool_workers.specs.declared.view.View.{View}
use Rattle.pool_workers.specs.Words.{total}

pub total-set : (f : View → ℕ) (views : List View) (id : ℕ) (v w : View) → get_elem? views id ≡ some v → total f (set views id w) + f v ≡ total f views + f w
total-set f [] id v w at = absurd (some-ne-none v (sym at))
total-set f (x ∷ xs) zero v w at = let e : f x ≡ f v = ap f (some-injective x v at) in omega arith
total-set f (x ∷ xs) (suc id) v w at = let ih = total-set f xs id v w at in omega arith

pub total-snoc : (f : View → ℕ) (views : List View) (v : View) → total f (views ++ v ∷ []) ≡ total f views + f v
total-snoc f [] v = omega arith
total-snoc f (x ∷ xs) v = let ih = total-snoc f xs v in omega arith

pub one_le : (f : View → ℕ) (views : List View) (id : ℕ) (v : View) → get_elem? views id ≡ some v → f v ≤ total f views
one_le f [] id v at = absurd (some-ne-none v (sym at))
one_le f (x ∷ xs) zero v at = let e : f x ≡ f v = ap f (some-injective x v at) in omega arith
one_le f (x ∷ xs) (suc id) v at = let ih = one_le f xs id v at in omega arith

pub total-le : (f g : View → ℕ) (views : List View) → ((id : ℕ) (v : View) → get_elem? views id ≡ some v → f v ≤ g v) → total f views ≤ total g views
total-le f g [] le = omega arith
total-le f g (x ∷ xs) le = let here = le 0 x refl in let ih = total-le f g xs (λ id v at. le (suc id) v at) in omega arith

-- where f is at most g in each view, the sums differ by no less than one view's do
pub total_but : (f g : View → ℕ) (views : List View) (id : ℕ) (v : View) → ((id : ℕ) (v : View) → get_elem? views id ≡ some v → f v ≤ g v) → get_elem? views id ≡ some v → total f views + g v ≤ total g views + f v
total_but f g [] id v le at = absurd (some-ne-none v (sym at))
total_but f g (x ∷ xs) zero v le at =
    let e : f x ≡ f v = ap f (some-injective x v at) in let d : g x ≡ g v = ap g (some-injective x v at) in
    let rest = total-le f g xs (λ id v at. le (suc id) v at) in omega arith
total_but f g (x ∷ xs) (suc id) v le at =
    let here = le 0 x refl in let ih = total_but f g xs id v (λ id v at. le (suc id) v at) at in omega arith

total-none : (f : View → ℕ) (views : List View) → ((id : ℕ) (v : View) → get_elem? views id ≡ some v → v.parts ≡ 0 → f v ≡ 0) → total (λ v. v.parts) views ≡ 0 → total f views ≡ 0
total-none f [] idle none = refl
total-none f (x ∷ xs) idle none =
    let here = idle 0 x refl (omega arith) in let ih = total-none f xs (λ id v at. idle (suc id) v at) (omega arith) in omega arith

-- one view with every part has the whole sum
pub total_only : (f : View → ℕ) (views : List View) (id : ℕ) (v : View) → ((id : ℕ) (v : View) → get_elem? views id ≡ some v → v.parts ≡ 0 → f v ≡ 0) → get_elem? views id ≡ some v → total (λ v. v.parts) views ≡ v.parts → total f views ≡ f v
total_only f [] id v idle at all = absurd (some-ne-none v (sym at))
total_only f (x ∷ xs) zero v idle at all =
    let e : f x ≡ f v = ap f (some-injective x v at) in let d : x.parts ≡ v.parts = ap (λ (u : View). u.parts) (some-injective x v at) in
    let ih = total-none f xs (λ id v at. idle (suc id) v at) (omega arith) in omega arith
total_only f (x ∷ xs) (suc id) v idle at all =
    let le = one_le (λ (u : View). u.parts) xs id v at in
    let here = idle 0 x refl (omega arith) in
    let ih = total_only f xs id v (λ id v at. idle (suc id) v at) at (omega arith) in omega arith
