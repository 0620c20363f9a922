-- Vectors as lists of bits and as numbers.
use Rattle.std.proofs.Common.{ℕ, ◌≡◌, ◌<◌, ◌≤◌, ◌+◌, ◌-◌, ◌*◌, ◌/◌, ◌%◌, ◌^◌, Bool, true, false, not, ◌&&◌, List, [], ◌∷◌, length, take, drop, suc, zero, refl, sym, ◌∙◌, ap, ap₂, arith}
use Rattle.std.specs.Prelude.{◌==◌, Option, Some, None, SomeIff, get_or}
use Rattle.std.specs.Option.{unwrap_or}
use Rattle.std.proofs.Math.Pow.{pow_mono}
use Rattle.std.proofs.lemmas.Bool.Decides.{nat_tests}
use Rattle.std.proofs.lemmas.Nat.{mod-pow-add, xor_block, and_block, shl_whole, or_shifted, pow-add}
use Rattle.std.proofs.Math.Nat.{mul-le-mul_left, pow-succ', div-one, div-div-eq-div-mul, div-eq_of_lt}
use Rattle.std.proofs.lemmas.Bool.{eq-eqb, ne_eqb}
use Rattle.std.specs.Prelude.{bit_xor, bit_and, bit_or}
use Rattle.share_types.specs.BitLaws.{XorIsBitwise, AndIsBitwise, NotIsBitwise, SliceIsCut, JoinIsAppended}
use Rattle.share_types.specs.Bits.{once, number, bits, differ}

once-odd : (n : ℕ) → once (n % 2 == 1) ≡ n % 2
once-odd n = grind (arith, nat_tests)

pub length-bits : (width n : ℕ) → length (bits width n) ≡ width
length-bits zero n = refl
length-bits (suc width) n = ap suc (length-bits width (n / 2))

pub number-bits : (width n : ℕ) → number (bits width n) ≡ n % 2 ^ width
number-bits zero n = omega arith
number-bits (suc width) n =
    let low = once-odd n in
    let high = number-bits width (n / 2) in
    let whole = mod-pow-add n width 1 in
    let power : n % 2 ^ suc width ≡ n % 2 ^ (width + 1) = ap (λ k. n % 2 ^ k) (omega arith) in
    omega arith

pub number-below : (bs : List Bool) → number bs < 2 ^ length bs
number-below [] = omega arith
number-below (true ∷ bs) = let low = number-below bs in let power = pow-succ' 2 (length bs) in omega arith
number-below (false ∷ bs) = let low = number-below bs in let power = pow-succ' 2 (length bs) in omega arith

half : (b : Bool) (n : ℕ) → (once b + 2 * n) / 2 ≡ n
half true n = omega arith
half false n = omega arith

odd : (b : Bool) (n : ℕ) → ((once b + 2 * n) % 2 == 1) ≡ b
odd true n = eq-eqb _ 1 (omega arith)
odd false n = ne_eqb _ 1 (λ h. absurd (omega arith))

pub bits-number : (bs : List Bool) → bits (length bs) (number bs) ≡ bs
bits-number [] = refl
bits-number (b ∷ bs) = ap₂ (λ (x : Bool) (xs : List Bool). x ∷ xs) (odd b (number bs)) (ap (bits (length bs)) (half b (number bs)) ∙ bits-number bs)

-- lists of one length with one number are one list
pub same_from_number : (xs ys : List Bool) → length xs ≡ length ys → number xs ≡ number ys → xs ≡ ys
same_from_number xs ys e f = sym (bits-number xs) ∙ ap₂ bits e f ∙ bits-number ys

pub take-bits : (count width n : ℕ) → count ≤ width → take count (bits width n) ≡ bits count n
take-bits zero width n h = refl
take-bits (suc count) zero n h = absurd (omega arith)
take-bits (suc count) (suc width) n h = ap (λ xs. (n % 2 == 1) ∷ xs) (take-bits count width (n / 2) (omega arith))

pub drop-bits : (count width n : ℕ) → count ≤ width → drop count (bits width n) ≡ bits (width - count) (n / 2 ^ count)
drop-bits zero width n h = ap₂ bits (omega arith) (sym (div-one n))
drop-bits (suc count) zero n h = absurd (omega arith)
drop-bits (suc count) (suc width) n h = drop-bits count width (n / 2) (omega arith) ∙ ap₂ bits (omega arith) (div-div-eq-div-mul n 2 (2 ^ count) ∙ ap (λ k. n / k) (sym (pow-succ' 2 count)))

-- some bits of a number from a place on
pub number-slice : (width n at count : ℕ) → at + count ≤ width → number (take count (drop at (bits width n))) ≡ n / 2 ^ at % 2 ^ count
number-slice width n at count h =
    ap (λ xs. number (take count xs)) (drop-bits at width n (omega arith))
    ∙ ap number (take-bits count (width - at) (n / 2 ^ at) (omega arith))
    ∙ number-bits count (n / 2 ^ at)

pub shifted : (word at : ℕ) (r : Option ℕ) → word < 2 ^ 64 → SomeIff r (at < 64) (word / 2 ^ at) → unwrap_or r 0 ≡ word / 2 ^ at
shifted word at (Some x) low h = h.1
shifted word at None low h =
    let high : 64 ≤ at = omega (arith, h) in
    let power = pow_mono {i = 64} {j = at} high in
    sym (div-eq_of_lt (omega arith))

-- a list that is not empty stands in the list of lists
pub some_list_within : {X : Type 0} (xs : List (List X)) (i : ℕ) → 1 ≤ length (get_or xs i []) → i < length xs
some_list_within [] i h = absurd (omega (arith, h))
some_list_within (x ∷ xs) zero h = omega arith
some_list_within (x ∷ xs) (suc i) h = let lt = some_list_within xs i h in omega arith

once-small : (b : Bool) → once b ≤ 1
once-small true = omega arith
once-small false = omega arith

once-differ : (x y : Bool) → bit_xor (once x) (once y) ≡ once (differ x y)
once-differ true true = refl
once-differ true false = refl
once-differ false true = refl
once-differ false false = refl

once-both : (x y : Bool) → bit_and (once x) (once y) ≡ once (x && y)
once-both true true = refl
once-both true false = refl
once-both false true = refl
once-both false false = refl

-- a bit below a number
below : (b : Bool) (n : ℕ) → once b + 2 * n ≡ n * 2 ^ 1 + once b
below b n = omega arith

xor_more : (x y : Bool) (a b : ℕ) → bit_xor (once x + 2 * a) (once y + 2 * b) ≡ once (differ x y) + 2 * bit_xor a b
xor_more x y a b =
    let low = once-small x in
    let other = once-small y in
    ap₂ bit_xor (below x a) (below y b)
    ∙ (xor_block 1 a b (once x) (once y) (omega arith) (omega arith)
    ∙ (ap (λ n. bit_xor a b * 2 ^ 1 + n) (once-differ x y) ∙ sym (below (differ x y) (bit_xor a b))))

and_more : (x y : Bool) (a b : ℕ) → bit_and (once x + 2 * a) (once y + 2 * b) ≡ once (x && y) + 2 * bit_and a b
and_more x y a b =
    let low = once-small x in
    let other = once-small y in
    ap₂ bit_and (below x a) (below y b)
    ∙ (and_block 1 a b (once x) (once y) (omega arith) (omega arith)
    ∙ (ap (λ n. bit_and a b * 2 ^ 1 + n) (once-both x y) ∙ sym (below (x && y) (bit_and a b))))

pub number-xor : XorIsBitwise
number-xor [] [] e = refl
number-xor [] (y ∷ ys) e = absurd (omega arith)
number-xor (x ∷ xs) [] e = absurd (omega arith)
number-xor (x ∷ xs) (y ∷ ys) e =
    let rest = number-xor xs ys (omega arith) in
    ap (λ n. once (differ x y) + 2 * n) rest ∙ sym (xor_more x y (number xs) (number ys))

pub number-and : AndIsBitwise
number-and [] [] e = refl
number-and [] (y ∷ ys) e = absurd (omega arith)
number-and (x ∷ xs) [] e = absurd (omega arith)
number-and (x ∷ xs) (y ∷ ys) e =
    let rest = number-and xs ys (omega arith) in
    ap (λ n. once (x && y) + 2 * n) rest ∙ sym (and_more x y (number xs) (number ys))

once-not : (b : Bool) → once (not b) ≡ 1 - once b
once-not true = refl
once-not false = refl

pub number-not : NotIsBitwise
number-not [] = refl
number-not (b ∷ bs) =
    let rest = number-not bs in
    let low = number-below bs in
    let first = once-not b in
    let small = once-small b in
    let power = pow-succ' 2 (length bs) in
    omega arith

pub number-cut : SliceIsCut
number-cut xs at width h =
    let whole = bits-number xs in
    ap (λ ys. number (take width (drop at ys))) (sym whole) ∙ number-slice (length xs) (number xs) at width h

pub number-append : JoinIsAppended
number-append [] ys = omega arith
number-append (x ∷ xs) ys =
    let rest = number-append xs ys in
    let power = ap (λ p. p * number ys) (pow-succ' 2 (length xs)) in
    omega arith

-- a low part, and a high part that is moved above it, side by side in a word of 64 bits
pub joined : (width above low high : ℕ) → low < 2 ^ width → high < 2 ^ above → width + above ≤ 64 →
    bit_or (high * 2 ^ width % 2 ^ 64) low ≡ low + 2 ^ width * high
joined width above low high p q r =
    ap (λ n. bit_or n low) (shl_whole high above width 64 q (omega arith))
    ∙ (or_shifted high width low p ∙ omega arith)

pub joined-below : (width above low high : ℕ) → low < 2 ^ width → high < 2 ^ above →
    low + 2 ^ width * high < 2 ^ (width + above)
joined-below width above low high p q =
    let whole = pow-add 2 width above in
    let rows : 2 ^ width * (high + 1) ≤ 2 ^ width * 2 ^ above = mul-le-mul_left (2 ^ width) (omega arith) in
    omega arith
