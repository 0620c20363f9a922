-- Shared bits make of shares by XOR shares by sum.
use Rattle.std.proofs.Common.{◌≡◌, ℕ, zero, suc, ◌+◌, ◌*◌, ◌%◌, ◌^◌, ◌<◌, Bool, true, false, refl, sym, ap, ap₂, subst, ◌∙◌, arith, inl, inr}
use Rattle.std.proofs.Math.Dec.{eqb-suc-zero}
use Rattle.std.proofs.lemmas.Bool.{cases_lt}
use Rattle.std.proofs.lemmas.Nat.{xor_lt, pow_pos, mul-mod_second}
use Rattle.share_types.specs.Bits.{once, number, differ}
use Rattle.share_types.specs.Sums.{sum_to, xor_to, each, part_of_public}
use Rattle.share_types.specs.Keys.{◌⊕◌, bit, parity_to, AreSharedBit}
use Rattle.share_types.specs.declared.records.SharedBit.{SharedBit}
use Rattle.share_types.proofs.Parties.{sum_to_same}
use Rattle.bmr_keys.proofs.Labels.{bit-xor, same-bits, bit-number, bit-number_above, bit-above, number-each_more, number-each_below, undone}
use Rattle.bmr_keys.proofs.Sums.{xor-both}
use Rattle.bmr_keys.proofs.Masks.{xor-numbers}
use Rattle.share_convert.specs.Convert.{covered_share, turned_word, closed_word}
use Rattle.share_convert.specs.Laws.{BitsSum}

-- ## Sums by the party's number
no_part : (n c : ℕ) → 0 < n → part_of_public n c ≡ 0
no_part zero c h = absurd (omega arith)
no_part (suc n) c h = rw eqb-suc-zero refl

sum-public : (n c : ℕ) → 0 < n → sum_to n (λ p. part_of_public p c) ≡ c
sum-public zero c h = absurd (omega arith)
sum-public (suc zero) c h = omega arith
sum-public (suc (suc n)) c h =
    let before = sum-public (suc n) c (omega arith) in
    let last = no_part (suc n) c (omega arith) in
    omega arith

sum-both : (n : ℕ) (f g : ℕ → ℕ) → sum_to n (λ p. f p + g p) ≡ sum_to n f + sum_to n g
sum-both zero f g = refl
sum-both (suc n) f g = let before = sum-both n f g in omega arith

sum-mod : (n : ℕ) (f : ℕ → ℕ) → sum_to n (λ p. f p % 2 ^ 64) % 2 ^ 64 ≡ sum_to n f % 2 ^ 64
sum-mod zero f = refl
sum-mod (suc n) f = let before = sum-mod n f in omega arith

sum-times : (n k : ℕ) (f : ℕ → ℕ) → sum_to n (λ p. k * f p) ≡ k * sum_to n f
sum-times zero k f = omega arith
sum-times (suc n) k f = let before = sum-times n k f in omega arith

sum-none : (n : ℕ) → sum_to n (λ p. 0) ≡ 0
sum-none zero = refl
sum-none (suc n) = let before = sum-none n in omega arith

sum-swap : (n w : ℕ) (f : ℕ → ℕ → ℕ) → sum_to n (λ p. sum_to w (f p)) ≡ sum_to w (λ i. sum_to n (λ p. f p i))
sum-swap zero w f = sym (sum-none w)
sum-swap (suc n) w f =
    ap (λ m. m + sum_to w (f n)) (sum-swap n w f) ∙ sym (sum-both w (λ i. sum_to n (λ p. f p i)) (f n))

-- sums of what is equal modulo 2^64, each times the value of its place
sum-places : (w : ℕ) (f g : ℕ → ℕ) → ((i : ℕ) → i < w → f i % 2 ^ 64 ≡ g i % 2 ^ 64) →
    sum_to w (λ i. 2 ^ i * f i) % 2 ^ 64 ≡ sum_to w (λ i. 2 ^ i * g i) % 2 ^ 64
sum-places zero f g same = refl
sum-places (suc w) f g same =
    let before = sum-places w f g (λ i h. same i (omega arith)) in
    let last : 2 ^ w * f w % 2 ^ 64 ≡ 2 ^ w * g w % 2 ^ 64 =
    sym (mul-mod_second (2 ^ w) (f w) (2 ^ 64)) ∙ (ap (λ m. 2 ^ w * m % 2 ^ 64) (same w (omega arith)) ∙ mul-mod_second (2 ^ w) (g w) (2 ^ 64)) in
    added (sum_to w (λ i. 2 ^ i * f i)) (2 ^ w * f w) (sum_to w (λ i. 2 ^ i * g i)) (2 ^ w * g w) before last
  where
    added : (a b c d : ℕ) → a % 2 ^ 64 ≡ c % 2 ^ 64 → b % 2 ^ 64 ≡ d % 2 ^ 64 → (a + b) % 2 ^ 64 ≡ (c + d) % 2 ^ 64
    added a b c d p q = omega arith

number-sum : (w : ℕ) (f : ℕ → Bool) → number (each w f) ≡ sum_to w (λ i. 2 ^ i * once (f i))
number-sum zero f = refl
number-sum (suc w) f = number-each_more w f ∙ ap (λ m. m + 2 ^ w * once (f w)) (number-sum w f)

-- ## One shared bit
turned-sum : (b : Bool) (x y : ℕ) → (turned_word b x + turned_word b y) % 2 ^ 64 ≡ turned_word b (x + y)
turned-sum true x y = omega arith
turned-sum false x y = omega arith

turned-mod : (b : Bool) (x : ℕ) → turned_word b x ≡ turned_word b (x % 2 ^ 64)
turned-mod true x = omega arith
turned-mod false x = omega arith

turned-all : (n : ℕ) (b : Bool) (r : ℕ → ℕ) → sum_to n (λ p. turned_word b (r p)) % 2 ^ 64 ≡ turned_word b (sum_to n r)
turned-all zero true r = omega arith
turned-all zero false r = omega arith
turned-all (suc n) b r =
    let before = turned-all n b r in
    let both = turned-sum b (sum_to n r) (r n) in
    joined (sum_to n (λ p. turned_word b (r p))) (turned_word b (r n)) (turned_word b (sum_to n r)) (turned_word b (sum_to n r + r n)) before both
  where
    joined : (s t u v : ℕ) → s % 2 ^ 64 ≡ u → (u + t) % 2 ^ 64 ≡ v → (s + t) % 2 ^ 64 ≡ v
    joined s t u v p q = omega arith

-- a turned bit and the opened one sum to the XOR of the shared bit and the opened one
turned-bit : (v c : Bool) → (turned_word v (once c) + once v) % 2 ^ 64 ≡ once (differ v c) % 2 ^ 64
turned-bit true true = refl
turned-bit true false = refl
turned-bit false true = refl
turned-bit false false = refl

-- ## Vectors
pub number-bits_of : (w x : ℕ) → x < 2 ^ w → x ≡ number (each w (bit x))
number-bits_of w x small = same-bits _ _ (λ i. elim (cases_lt i w) as (λ _. bit x i ≡ bit (number (each w (bit x))) i) [
  | inl inside ↦ sym (bit-number w (bit x) i inside)
  | inr outside ↦ bit-above x w i small outside ∙ sym (bit-number_above w (bit x) i outside)
])

xor-below : (n w : ℕ) (x : ℕ → ℕ) → ((p : ℕ) → p < n → x p < 2 ^ w) → xor_to n x < 2 ^ w
xor-below zero w x small = pow_pos w
xor-below (suc n) w x small = xor_lt w (xor_to n x) (x n) (xor-below n w x (λ p h. small p (omega arith))) (small n (omega arith))

module _ (n w : ℕ) (stock : ℕ → ℕ → SharedBit) (x : ℕ → ℕ) (v : ℕ) (some : 0 < n)
    (honest : (k : ℕ) → k < w → AreSharedBit n (λ p. stock p k))
    (small : (p : ℕ) → p < n → x p < 2 ^ w)
    (opened : v ≡ xor_to n (λ p. covered_share w (x p) (stock p))) where
  abbrev bits : ℕ → Bool
  bits k = parity_to n (λ p. (stock p k).bit)

  abbrev all_bits : ℕ
  all_bits = number (each w bits)

  opened_is : v ≡ xor_to n x ⊕ all_bits
  opened_is =
      opened ∙ (xor-both n x (λ p. number (each w (λ i. (stock p i).bit)))
      ∙ ap (λ m. xor_to n x ⊕ m) (xor-numbers n w (λ p i. (stock p i).bit)))

  value_is : v ⊕ all_bits ≡ xor_to n x
  value_is = ap (λ m. m ⊕ all_bits) opened_is ∙ undone (xor_to n x) all_bits

  value_bits : xor_to n x ≡ number (each w (λ i. differ (bit v i) (bits i)))
  value_bits = same-bits _ _ (λ i. elim (cases_lt i w) as (λ _. bit (xor_to n x) i ≡ bit (number (each w (λ k. differ (bit v k) (bits k)))) i) [
    | inl inside ↦
        ap (λ m. bit m i) (sym value_is) ∙ (bit-xor v all_bits i
        ∙ (ap (differ (bit v i)) (bit-number w bits i inside) ∙ sym (bit-number w (λ k. differ (bit v k) (bits k)) i inside)))
    | inr outside ↦
        bit-above (xor_to n x) w i (xor-below n w x small) outside
        ∙ sym (bit-number_above w (λ k. differ (bit v k) (bits k)) i outside)
  ])

  opened_small : v < 2 ^ w
  opened_small =
      let P : ℕ → Type 0 = λ m. m < 2 ^ w in
      subst P (sym opened_is) (xor_lt w (xor_to n x) all_bits (xor-below n w x small) (number-each_below w bits))

  -- what all parties' shares of a turned bit and the opened bit sum to
  abbrev turned_total : ℕ → ℕ
  turned_total i = sum_to n (λ p. turned_word (bit v i) (stock p i).word)

  turned_is : (i : ℕ) → i < w → (turned_total i + once (bit v i)) % 2 ^ 64 ≡ once (differ (bit v i) (bits i)) % 2 ^ 64
  turned_is i inside =
      let all = turned-all n (bit v i) (λ p. (stock p i).word) ∙ (turned-mod (bit v i) (sum_to n (λ p. (stock p i).word)) ∙ ap (turned_word (bit v i)) (honest i inside)) in
      moved (turned_total i) (turned_word (bit v i) (once (bits i))) (once (bit v i)) all ∙ turned-bit (bit v i) (bits i)
    where
      moved : (a b c : ℕ) → a % 2 ^ 64 ≡ b → (a + c) % 2 ^ 64 ≡ (b + c) % 2 ^ 64
      moved a b c e = omega arith

  whole_sum : sum_to n (λ p. sum_to w (λ i. 2 ^ i * turned_word (bit v i) (stock p i).word) + part_of_public p v) ≡ sum_to w (λ i. 2 ^ i * turned_total i) + v
  whole_sum =
      sum-both n (λ p. sum_to w (λ i. 2 ^ i * turned_word (bit v i) (stock p i).word)) (λ p. part_of_public p v)
      ∙ ap₂ (λ (a b : ℕ). a + b)
      (sum-swap n w (λ p i. 2 ^ i * turned_word (bit v i) (stock p i).word)
      ∙ sum_to_same w (λ i. sum_to n (λ p. 2 ^ i * turned_word (bit v i) (stock p i).word)) (λ i. 2 ^ i * turned_total i)
      (λ i h. sum-times n (2 ^ i) (λ p. turned_word (bit v i) (stock p i).word)))
      (sum-public n v some)

  with_opened : sum_to w (λ i. 2 ^ i * turned_total i) + v ≡ sum_to w (λ i. 2 ^ i * (turned_total i + once (bit v i)))
  with_opened =
      ap (λ m. sum_to w (λ i. 2 ^ i * turned_total i) + m) (number-bits_of w v opened_small ∙ number-sum w (bit v))
      ∙ (sym (sum-both w (λ i. 2 ^ i * turned_total i) (λ i. 2 ^ i * once (bit v i)))
      ∙ sum_to_same w (λ i. 2 ^ i * turned_total i + 2 ^ i * once (bit v i)) (λ i. 2 ^ i * (turned_total i + once (bit v i)))
      (λ i h. omega arith))

  pub sums : sum_to n (λ p. closed_word p w (stock p) v) % 2 ^ 64 ≡ xor_to n x % 2 ^ 64
  sums =
      sum-mod n (λ p. sum_to w (λ i. 2 ^ i * turned_word (bit v i) (stock p i).word) + part_of_public p v)
      ∙ (ap (λ m. m % 2 ^ 64) (whole_sum ∙ with_opened)
      ∙ (sum-places w (λ i. turned_total i + once (bit v i)) (λ i. once (differ (bit v i) (bits i))) turned_is
      ∙ ap (λ m. m % 2 ^ 64) (sym (number-sum w (λ i. differ (bit v i) (bits i))) ∙ sym value_bits)))

pub bits-sum : BitsSum
bits-sum n w stock x v some honest small opened = sums n w stock x v some honest small opened
