-- Lists that are made of one element, and maps of maps.
use Rattle.std.proofs.Common.{ℕ, ◌≡◌, ◌<◌, ◌+◌, Bool, List, [], ◌∷◌, ◌++◌, length, take, get_or, map, replicate, zero, suc, refl, ap, ◌∙◌, arith, cond, Vec, Global}
use Rattle.circuit_tables.specs.Values.{kept_of}

pub map_same : {X Z : Type 0} (f : X → Z) (n : ℕ) (x : X) → map f (replicate n x) ≡ replicate n (f x)
map_same f zero x = refl
map_same f (suc n) x = ap (λ xs. f x ∷ xs) (map_same f n x)

pub map_twice : {X Y Z : Type 0} (g : Y → Z) (f : X → Y) (xs : List X) → map (λ x. g (f x)) xs ≡ map g (map f xs)
map_twice g f [] = refl
map_twice g f (x ∷ xs) = ap (λ ys. g (f x) ∷ ys) (map_twice g f xs)

-- one value more that is kept, or not
kept_suc : (flags : List Bool) (v : List (List Bool)) (i : ℕ) (w : Bool) (d : List Bool) → i < length flags → i < length v → kept_of (take (suc i) flags) (take (suc i) v) ≡ kept_of (take i flags) (take i v) ++ cond (get_or flags i w) (get_or v i d) [] ∷ []
kept_suc [] v i w d h g = absurd (omega arith)
kept_suc (flag ∷ flags) [] i w d h g = absurd (omega arith)
kept_suc (flag ∷ flags) (value ∷ v) zero w d h g = refl
kept_suc (flag ∷ flags) (value ∷ v) (suc i) w d h g = ap (λ rest. cond flag value [] ∷ rest) (kept_suc flags v i w d (omega arith) (omega arith))

pub kept_more : (flags : List Bool) (v : List (List Bool)) (i : ℕ) (w : Bool) (d : List Bool) → i < length flags → i < length v → kept_of (take (i + 1) flags) (take (i + 1) v) ≡ kept_of (take i flags) (take i v) ++ cond (get_or flags i w) (get_or v i d) [] ∷ []
kept_more flags v i w d h g = let e : i + 1 ≡ suc i = omega arith in ap (λ k. kept_of (take k flags) (take k v)) e ∙ kept_suc flags v i w d h g

-- a list in a vector, read by the place of the vector
pub read_view : (xs : List (Vec Bool Global)) (v : List (List Bool)) (i : ℕ) (d : Vec Bool Global) (e : List Bool) → i < length xs → map (λ b. b.items) xs ≡ v → (get_or xs i d).items ≡ get_or v i e
read_view xs v i d e h f = at xs i h ∙ ap (λ (w : List (List Bool)). get_or w i e) f
  where
    at : (ys : List (Vec Bool Global)) (k : ℕ) → k < length ys → (get_or ys k d).items ≡ get_or (map (λ b. b.items) ys) k e
    at [] k h = absurd (omega arith)
    at (y ∷ ys) zero h = refl
    at (y ∷ ys) (suc k) h = at ys k (omega arith)
