-- Numbers under XOR by their bits, and bits times keys.
use Rattle.std.proofs.Common.{◌≡◌, ℕ, zero, suc, ◌+◌, ◌-◌, ◌*◌, ◌/◌, ◌%◌, ◌^◌, ◌<◌, ◌≤◌, ◌&&◌, Bool, true, false, [], ◌∷◌, refl, sym, ap, ap₂, ◌∙◌, arith, inl, inr}
use Rattle.std.specs.Prelude.{◌==◌, bit_and, min}
use Rattle.std.specs.Int.{bit_at}
use Rattle.std.specs.Int.Bits.{xor_assoc, xor_zero_l}
use Rattle.std.proofs.lemmas.Bool.{lt-ltb, le-ltb, cases_lt}
use Rattle.std.proofs.lemmas.Nat.{xor_comm, xor_shr, xor_mod, shr-shr, field_of, mod-pow-add, shr_high, mod_low, pow_pos}
use Rattle.std.proofs.lemmas.Nat.Bits.{bit_at_xor, bit_at_and, bit_at-lt, bit_at-zero, bit_at_above, same_from_bits}
use Rattle.std.proofs.Math.Nat.{zero-div, zero-mod, mod-eq_of_lt}
use Rattle.share_types.specs.Bits.{once, number, differ}
use Rattle.share_types.specs.Sums.{each}
use Rattle.share_types.specs.Keys.{◌⊕◌, bit, times}
use Rattle.share_types.proofs.BitsLemmas.{number-below, number-append}
use Rattle.share_types.proofs.Parties.{length-each}
use Rattle.bmr_keys.specs.Mask.{cut, slice, join}

-- ## Digits below 2 as bits
digit-sum : (a b : ℕ) → a < 2 → b < 2 → ((a + b) % 2 == 1) ≡ differ (a == 1) (b == 1)
digit-sum zero zero p q = refl
digit-sum zero (suc zero) p q = refl
digit-sum (suc zero) zero p q = refl
digit-sum (suc zero) (suc zero) p q = refl
digit-sum zero (suc (suc b)) p q = absurd (omega arith)
digit-sum (suc zero) (suc (suc b)) p q = absurd (omega arith)
digit-sum (suc (suc a)) b p q = absurd (omega arith)

digit-min : (a b : ℕ) → a < 2 → b < 2 → (min a b == 1) ≡ ((a == 1) && (b == 1))
digit-min zero zero p q = refl
digit-min zero (suc zero) p q = refl
digit-min (suc zero) zero p q = refl
digit-min (suc zero) (suc zero) p q = refl
digit-min zero (suc (suc b)) p q = absurd (omega arith)
digit-min (suc zero) (suc (suc b)) p q = absurd (omega arith)
digit-min (suc (suc a)) b p q = absurd (omega arith)

digit-same : (a b : ℕ) → a < 2 → b < 2 → (a == 1) ≡ (b == 1) → a ≡ b
digit-same zero zero p q e = refl
digit-same zero (suc zero) p q e = absurd (cc)
digit-same (suc zero) zero p q e = absurd (cc)
digit-same (suc zero) (suc zero) p q e = refl
digit-same zero (suc (suc b)) p q e = absurd (omega arith)
digit-same (suc zero) (suc (suc b)) p q e = absurd (omega arith)
digit-same (suc (suc a)) b p q e = absurd (omega arith)

-- ## Bits of numbers
pub bit-xor : (x y i : ℕ) → bit (x ⊕ y) i ≡ differ (bit x i) (bit y i)
bit-xor x y i = ap (λ d. d == 1) (bit_at_xor x y i) ∙ digit-sum (bit_at x i) (bit_at y i) (bit_at-lt x i) (bit_at-lt y i)

pub bit-and : (x y i : ℕ) → bit (bit_and x y) i ≡ (bit x i && bit y i)
bit-and x y i = ap (λ d. d == 1) (bit_at_and x y i) ∙ digit-min (bit_at x i) (bit_at y i) (bit_at-lt x i) (bit_at-lt y i)

pub same-bits : (x y : ℕ) → ((i : ℕ) → bit x i ≡ bit y i) → x ≡ y
same-bits x y h = same_from_bits x y (λ i. digit-same (bit_at x i) (bit_at y i) (bit_at-lt x i) (bit_at-lt y i) (h i))

pub bit-above : (x w i : ℕ) → x < 2 ^ w → w ≤ i → bit x i ≡ false
bit-above x w i small above = ap (λ d. d == 1) (bit_at_above x w i small above)

pub bit-zero : (i : ℕ) → bit 0 i ≡ false
bit-zero i = ap (λ d. d == 1) (bit_at-zero i)

odd_part : (y j : ℕ) → y % 2 ^ (j + 1) % 2 ≡ y % 2
odd_part y j = let split = mod-pow-add y j 1 in omega arith

pub bit-low : (x w i : ℕ) → i < w → bit (x % 2 ^ w) i ≡ bit x i
bit-low x w i h =
    let j = w - i - 1 in
    let parts : w ≡ (j + 1) + i = omega arith in
    ap (λ d. d == 1)
    (ap (λ k. x % 2 ^ k / 2 ^ i % 2) parts
    ∙ (ap (λ n. n % 2) (field_of x (j + 1) i) ∙ odd_part (x / 2 ^ i) j))

mod_small : (x w : ℕ) → x % 2 ^ w < 2 ^ w
mod_small x w = let positive = pow_pos w in omega arith

pub bit-shifted : (x at i : ℕ) → bit (x / 2 ^ at) i ≡ bit x (at + i)
bit-shifted x at i = ap (λ n. n % 2 == 1) (shr-shr x at i)

pub bit-slice : (at w x i : ℕ) → i < w → bit (slice at w x) i ≡ bit x (at + i)
bit-slice at w x i h = bit-low (x / 2 ^ at) w i h ∙ bit-shifted x at i

pub bit-slice_above : (at w x i : ℕ) → w ≤ i → bit (slice at w x) i ≡ false
bit-slice_above at w x i h = bit-above (slice at w x) w i (mod_small (x / 2 ^ at) w) h

turned : (w x y : ℕ) → join w x y ≡ y * 2 ^ w + x % 2 ^ w
turned w x y = omega arith

low_join : (w x y : ℕ) → join w x y % 2 ^ w ≡ x % 2 ^ w
low_join w x y = ap (λ n. n % 2 ^ w) (turned w x y) ∙ mod_low y w (x % 2 ^ w) (mod_small x w)

high_join : (w x y : ℕ) → join w x y / 2 ^ w ≡ y
high_join w x y = ap (λ n. n / 2 ^ w) (turned w x y) ∙ shr_high y w (x % 2 ^ w) (mod_small x w)

pub bit-join : (w x y i : ℕ) → i < w → bit (join w x y) i ≡ bit x i
bit-join w x y i h =
    sym (bit-low (join w x y) w i h) ∙ (ap (λ n. bit n i) (low_join w x y) ∙ bit-low x w i h)

pub bit-join_above : (w x y i : ℕ) → w ≤ i → bit (join w x y) i ≡ bit y (i - w)
bit-join_above w x y i h =
    let place : i ≡ w + (i - w) = omega arith in
    ap (bit (join w x y)) place
    ∙ (sym (bit-shifted (join w x y) w (i - w)) ∙ ap (λ n. bit n (i - w)) (high_join w x y))

pub slice-xor : (at w x y : ℕ) → slice at w (x ⊕ y) ≡ slice at w x ⊕ slice at w y
slice-xor at w x y = ap (λ n. n % 2 ^ w) (xor_shr x y at) ∙ xor_mod (x / 2 ^ at) (y / 2 ^ at) w

pub slice-zero : (at w : ℕ) → slice at w 0 ≡ 0
slice-zero at w = ap (λ n. n % 2 ^ w) (zero-div (2 ^ at)) ∙ zero-mod (2 ^ w)

pub join-xor : (w a b c d : ℕ) → join w (a ⊕ b) (c ⊕ d) ≡ join w a c ⊕ join w b d
join-xor w a b c d = same-bits _ _ (λ i. elim (cases_lt i w) as (λ _. bit (join w (a ⊕ b) (c ⊕ d)) i ≡ bit (join w a c ⊕ join w b d) i) [
  | inl small ↦
      bit-join w (a ⊕ b) (c ⊕ d) i small ∙ (bit-xor a b i
      ∙ (ap₂ differ (sym (bit-join w a c i small)) (sym (bit-join w b d i small)) ∙ sym (bit-xor (join w a c) (join w b d) i)))
  | inr large ↦
      bit-join_above w (a ⊕ b) (c ⊕ d) i large ∙ (bit-xor c d (i - w)
      ∙ (ap₂ differ (sym (bit-join_above w a c i large)) (sym (bit-join_above w b d i large)) ∙ sym (bit-xor (join w a c) (join w b d) i)))
])

-- ## The number of bits, each told by its place
pub number-each_below : (w : ℕ) (f : ℕ → Bool) → number (each w f) < 2 ^ w
number-each_below w f =
    let small = number-below (each w f) in
    let count = ap (λ k. 2 ^ k) (length-each w f) in
    omega arith

pub number-each_more : (w : ℕ) (f : ℕ → Bool) → number (each (suc w) f) ≡ number (each w f) + 2 ^ w * once (f w)
number-each_more w f =
    number-append (each w f) (f w ∷ [])
    ∙ ap₂ (λ (k m : ℕ). number (each w f) + 2 ^ k * m) (length-each w f) (omega arith)

-- a number and one bit above it
above : (w n : ℕ) (b : Bool) → n < 2 ^ w → bit (n + 2 ^ w * once b) w ≡ b
above w n b small =
    let parts : n + 2 ^ w * once b ≡ join w n (once b) = ap (λ m. m + 2 ^ w * once b) (sym (mod-eq_of_lt small)) in
    ap (λ m. bit m w) parts ∙ (bit-join_above w n (once b) w (omega arith) ∙ once_bit b w)
  where
    once_first : (b : Bool) → bit (once b) 0 ≡ b
    once_first true = refl
    once_first false = refl

    once_bit : (b : Bool) (w : ℕ) → bit (once b) (w - w) ≡ b
    once_bit b w = let none : w - w ≡ 0 = omega arith in ap (bit (once b)) none ∙ once_first b

pub bit-number : (w : ℕ) (f : ℕ → Bool) (i : ℕ) → i < w → bit (number (each w f)) i ≡ f i
bit-number zero f i h = absurd (omega arith)
bit-number (suc w) f i h = ap (λ n. bit n i) (number-each_more w f) ∙ elim (cases_lt i w) as (λ _. bit (number (each w f) + 2 ^ w * once (f w)) i ≡ f i) [
  | inl small ↦
      (let low = number-each_below w f in
      let parts : number (each w f) + 2 ^ w * once (f w) ≡ join w (number (each w f)) (once (f w)) = ap (λ m. m + 2 ^ w * once (f w)) (sym (mod-eq_of_lt low)) in
      ap (λ m. bit m i) parts ∙ (bit-join w (number (each w f)) (once (f w)) i small ∙ bit-number w f i small))
  | inr large ↦
      (let last : i ≡ w = omega arith in
      ap (bit (number (each w f) + 2 ^ w * once (f w))) last ∙ (above w (number (each w f)) (f w) (number-each_below w f) ∙ ap f (sym last)))
]

pub bit-number_above : (w : ℕ) (f : ℕ → Bool) (i : ℕ) → w ≤ i → bit (number (each w f)) i ≡ false
bit-number_above w f i h = bit-above (number (each w f)) w i (number-each_below w f) h

-- ## XOR of numbers
pub xor_zero_r : (x : ℕ) → x ⊕ 0 ≡ x
xor_zero_r x = xor_comm x 0 ∙ xor_zero_l x

pub xor_same : (x : ℕ) → x ⊕ x ≡ 0
xor_same x = same_from_bits _ _ (λ i. simp bit_at_xor (let small = bit_at-lt x i in let none = bit_at-zero i in omega arith))

pub exchange : (a b c d : ℕ) → (a ⊕ b) ⊕ (c ⊕ d) ≡ (a ⊕ c) ⊕ (b ⊕ d)
exchange a b c d = same_from_bits _ _ (λ i. simp bit_at_xor (omega arith))

-- what is added once more is gone
pub undone : (x a : ℕ) → (x ⊕ a) ⊕ a ≡ x
undone x a = xor_assoc x a a ∙ (ap (λ n. x ⊕ n) (xor_same a) ∙ xor_zero_r x)

pub aside : (u w v : ℕ) → (u ⊕ w) ⊕ v ≡ (u ⊕ v) ⊕ w
aside u w v = xor_assoc u w v ∙ (ap (λ n. u ⊕ n) (xor_comm w v) ∙ sym (xor_assoc u v w))

-- ## A bit times a key
pub times-xor : (b : Bool) (x y : ℕ) → times b (x ⊕ y) ≡ times b x ⊕ times b y
times-xor true x y = refl
times-xor false x y = sym (xor_zero_l 0)

pub times-zero : (b : Bool) → times b 0 ≡ 0
times-zero true = refl
times-zero false = refl

pub times-differ : (a b : Bool) (x : ℕ) → times (differ a b) x ≡ times a x ⊕ times b x
times-differ true true x = sym (xor_same x)
times-differ true false x = sym (xor_zero_r x)
times-differ false b x = sym (xor_zero_l (times b x))

pub times-times : (a b : Bool) (x : ℕ) → times a (times b x) ≡ times (a && b) x
times-times true b x = refl
times-times false b x = refl

pub bit-times : (b : Bool) (x i : ℕ) → bit (times b x) i ≡ (b && bit x i)
bit-times true x i = refl
bit-times false x i = bit-zero i

-- ## What stands before a width
pub cut-inside : (w : ℕ) (f : ℕ → ℕ) (i : ℕ) → i < w → cut w f i ≡ f i
cut-inside w f i h = rw (lt-ltb i w h) refl

pub cut-outside : (w : ℕ) (f : ℕ → ℕ) (i : ℕ) → w ≤ i → cut w f i ≡ 0
cut-outside w f i h = rw (le-ltb i w h) refl
