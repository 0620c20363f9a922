-- Lists of which one place is another.
use Rattle.std.proofs.Common.{◌≡◌, ◌≢◌, ℕ, zero, suc, ◌<◌, ◌≤◌, List, [], ◌∷◌, map, length, take, set, refl, sym, ap, Some, None, arith}
use Rattle.std.specs.List.{slice_get}
use Rattle.std.proofs.lemmas.Option.{same_Some}

pub set_here : {X : Type 0} (xs : List X) (i : ℕ) (y x : X) → i < length xs → slice_get (set xs i y) i ≡ Some x → x ≡ y
set_here [] i y x h e = absurd (omega arith)
set_here (z ∷ xs) zero y x h e = sym (same_Some y x e)
set_here (z ∷ xs) (suc i) y x h e = set_here xs i y x (omega arith) e

pub set_there : {X : Type 0} (xs : List X) (i j : ℕ) (y : X) → j ≢ i → slice_get (set xs i y) j ≡ slice_get xs j
set_there [] i j y other = refl
set_there (z ∷ xs) zero zero y other = absurd (other refl)
set_there (z ∷ xs) zero (suc j) y other = refl
set_there (z ∷ xs) (suc i) zero y other = refl
set_there (z ∷ xs) (suc i) (suc j) y other = set_there xs i j y (λ e. other (ap suc e))

pub map_set_same : {X Y : Type 0} (f : X → Y) (xs : List X) (i : ℕ) (y x : X) → slice_get xs i ≡ Some x → f y ≡ f x → map f (set xs i y) ≡ map f xs
map_set_same f [] i y x e same = refl
map_set_same f (z ∷ xs) zero y x e same = ap (λ w. w ∷ map f xs) (let e2 : z ≡ x = same_Some z x e in rw (same, e2) refl)
map_set_same f (z ∷ xs) (suc i) y x e same = ap (λ ws. f z ∷ ws) (map_set_same f xs i y x e same)

pub get_take_below : {X : Type 0} (xs : List X) (k i : ℕ) → i < k → slice_get (take k xs) i ≡ slice_get xs i
get_take_below xs zero i h = absurd (omega arith)
get_take_below [] (suc k) i h = refl
get_take_below (x ∷ xs) (suc k) zero h = refl
get_take_below (x ∷ xs) (suc k) (suc i) h = get_take_below xs k i (omega arith)

pub get_take_past : {X : Type 0} (xs : List X) (k i : ℕ) → k ≤ i → slice_get (take k xs) i ≡ None
get_take_past xs zero i h = refl
get_take_past [] (suc k) i h = refl
get_take_past (x ∷ xs) (suc k) zero h = absurd (omega arith)
get_take_past (x ∷ xs) (suc k) (suc i) h = get_take_past xs k i (omega arith)
