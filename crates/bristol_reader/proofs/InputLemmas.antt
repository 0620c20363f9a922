-- The bits of input values.
use Rattle.std.proofs.Common.{ℕ, ◌≡◌, ◌<◌, ◌≤◌, ◌+◌, Bool, true, false, List, [], ◌∷◌, ◌++◌, length, take, drop, get_or, map, refl, sym, ◌∙◌, ap, arith}
use Rattle.std.specs.Prelude.{◌==◌, sum}
use Rattle.std.specs.List.{flat_map}
use Rattle.std.proofs.lemmas.List.{drop_more, take_more, take_all, take_at, length-append, length-map, get_or-map, flat_map_more}
use Rattle.std.proofs.lemmas.List.Sums.{sum_by-cons}
use Rattle.share_types.specs.Bits.{number}

alone : (b : Bool) → (number (b ∷ []) == 1) ≡ b
alone true = refl
alone false = refl

pub one_bit : (xs : List Bool) (at : ℕ) → at < length xs → (number (take 1 (drop at xs)) == 1) ≡ get_or xs at false
one_bit xs at h = ap (λ (bits : List Bool). number (take 1 bits) == 1) (drop_more xs at false h) ∙ alone (get_or xs at false)

-- how many bits input values have
pub flat_count : (v : List (List Bool)) → length (flat_map (λ xs. xs) v) ≡ sum (map (λ xs. length xs) v)
flat_count [] = refl
flat_count (xs ∷ v) = length-append xs (flat_map (λ ys. ys) v) ∙ ap (λ (n : ℕ). length xs + n) (flat_count v) ∙ sym (sum_by-cons (λ n. n) (length xs) (map (λ ys. length ys) v))

-- the width of one of them
pub width_is : (v : List (List Bool)) (widths : List ℕ) (i : ℕ) → map (λ xs. length xs) v ≡ widths → i < length widths → length (get_or v i []) ≡ get_or widths i 0
width_is v widths i is within =
    let count = length-map v (λ (xs : List Bool). length xs) in
    let same = ap length is in
    sym (get_or-map (λ (xs : List Bool). length xs) v i [] 0 (omega arith)) ∙ ap (λ (ws : List ℕ). get_or ws i 0) is

-- the bits of one value more
pub flat_more : (v : List (List Bool)) (bits after : List Bool) (i : ℕ) → i < length v → bits ≡ flat_map (λ xs. xs) (take i v) → after ≡ bits ++ get_or v i [] → after ≡ flat_map (λ xs. xs) (take (i + 1) v)
flat_more v bits after i within is pushed =
    pushed
    ∙ ap (λ (b : List Bool). b ++ get_or v i []) is
    ∙ flat_map_more (λ (xs : List Bool). xs) [] (take i v) (get_or v i [])
    ∙ ap (flat_map (λ (xs : List Bool). xs)) (sym (take_more v i [] within))

-- bits with zeros behind them
pub padded_front : (bits : List Bool) (n m : ℕ) (rest : List Bool) → length bits ≡ m → m ≤ n → take m (take n bits ++ rest) ≡ bits
padded_front bits n m rest count le = ap (λ (xs : List Bool). take m (xs ++ rest)) (take_all n bits (omega arith)) ∙ take_at bits rest m count
