-- What parties have, as a list and by the party's number.
use Rattle.std.proofs.Common.{◌≡◌, ℕ, zero, suc, ◌+◌, List, [], ◌∷◌, ◌++◌, length, map, refl, sym, ap, ap₂, ◌∙◌, ◌<◌, arith, add-one, length-append}
use Rattle.std.specs.Prelude.{bit_xor}
use Rattle.std.specs.Int.Bits.{xor_assoc, xor_zero_l}
use Rattle.std.proofs.lemmas.Nat.{xor_comm}
use Rattle.std.proofs.lemmas.List.{map-append}
use Rattle.share_types.specs.Sums.{total, xor_total, sum_to, xor_to, each, by_number, by_party}
use Rattle.share_types.specs.PartyLaws.{TotalIsSum, XorTotalIsXor}

pub total-append : (xs ys : List ℕ) → total (xs ++ ys) ≡ total xs + total ys
total-append [] ys = omega arith
total-append (x ∷ xs) ys = let rest = total-append xs ys in omega arith

xor_zero_r : (x : ℕ) → bit_xor x 0 ≡ x
xor_zero_r x = xor_comm x 0 ∙ xor_zero_l x

pub xor_total-append : (xs ys : List ℕ) → xor_total (xs ++ ys) ≡ bit_xor (xor_total xs) (xor_total ys)
xor_total-append [] ys = sym (xor_zero_l (xor_total ys))
xor_total-append (x ∷ xs) ys =
    ap (bit_xor x) (xor_total-append xs ys) ∙ sym (xor_assoc x (xor_total xs) (xor_total ys))

pub total-each : TotalIsSum
total-each zero f = refl
total-each (suc n) f =
    let first = total-each n f in
    let both = total-append (each n f) (f n ∷ []) in
    omega arith

pub xor_total-each : XorTotalIsXor
xor_total-each zero f = refl
xor_total-each (suc n) f =
    xor_total-append (each n f) (f n ∷ []) ∙ ap₂ bit_xor (xor_total-each n f) (xor_zero_r (f n))

pub length-each : {X : Type 0} (n : ℕ) (f : ℕ → X) → length (each n f) ≡ n
length-each zero f = refl
length-each (suc n) f =
    let first = length-each n f in
    length-append (each n f) (f n ∷ []) ∙ omega arith

-- one party more
pub sum_to_more : (n : ℕ) (f : ℕ → ℕ) → sum_to (n + 1) f ≡ sum_to n f + f n
sum_to_more n f = ap (λ k. sum_to k f) (add-one n)

pub xor_to_more : (n : ℕ) (f : ℕ → ℕ) → xor_to (n + 1) f ≡ bit_xor (xor_to n f) (f n)
xor_to_more n f = ap (λ k. xor_to k f) (add-one n)

pub each_more : {X : Type 0} (n : ℕ) (f : ℕ → X) → each (n + 1) f ≡ each n f ++ f n ∷ []
each_more n f = ap (λ k. each k f) (add-one n)

-- parties that have the same at each number below theirs
pub sum_to_same : (n : ℕ) (f g : ℕ → ℕ) → ((party : ℕ) → party < n → f party ≡ g party) → sum_to n f ≡ sum_to n g
sum_to_same zero f g same = refl
sum_to_same (suc n) f g same =
    ap₂ (λ (a b : ℕ). a + b) (sum_to_same n f g (λ party h. same party (omega arith))) (same n (omega arith))

pub xor_to_same : (n : ℕ) (f g : ℕ → ℕ) → ((party : ℕ) → party < n → f party ≡ g party) → xor_to n f ≡ xor_to n g
xor_to_same zero f g same = refl
xor_to_same (suc n) f g same =
    ap₂ bit_xor (xor_to_same n f g (λ party h. same party (omega arith))) (same n (omega arith))

-- what is made of each party's item
pub map-each : {X Y : Type 0} (f : X → Y) (n : ℕ) (g : ℕ → X) → map f (each n g) ≡ each n (λ party. f (g party))
map-each f zero g = refl
map-each f (suc n) g =
    map-append f (each n g) (g n ∷ []) ∙ ap (λ ys. ys ++ f (g n) ∷ []) (map-each f n g)

by_number-append : {X Y : Type 0} (f : ℕ → X → Y) (first : ℕ) (xs : List X) (y : X) →
    by_number f first (xs ++ y ∷ []) ≡ by_number f first xs ++ f (first + length xs) y ∷ []
by_number-append f first [] y = ap (λ n. f n y ∷ []) (omega arith)
by_number-append f first (x ∷ xs) y =
    ap (λ ys. f first x ∷ ys) (by_number-append f (first + 1) xs y
    ∙ ap (λ n. by_number f (first + 1) xs ++ f n y ∷ []) (omega arith))

-- what is made of each party's item by its number
pub by_party-each : {X Y : Type 0} (f : ℕ → X → Y) (n : ℕ) (g : ℕ → X) →
    by_party f (each n g) ≡ each n (λ party. f party (g party))
by_party-each f zero g = refl
by_party-each f (suc n) g =
    let count = length-each n g in
    by_number-append f 0 (each n g) (g n)
    ∙ ap₂ (λ ys m. ys ++ f m (g n) ∷ []) (by_party-each f n g) (omega arith)
