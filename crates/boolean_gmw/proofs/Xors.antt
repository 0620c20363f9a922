-- XORs over parties.
use Rattle.std.proofs.Common.{ℕ, zero, suc, ◌≡◌, ◌<◌, ◌+◌, ◌*◌, ◌/◌, ◌%◌, ◌^◌, Bool, true, false, cond, inl, inr, refl, sym, ◌∙◌, ap, ap₂, arith}
use Rattle.std.specs.Prelude.{◌==◌, if◌then◌else◌, bit_and, bit_xor, min}
use Rattle.std.specs.Int.{bit_at}
use Rattle.std.specs.Int.Bits.{xor_assoc, xor_zero_l}
use Rattle.std.proofs.lemmas.Bool.{cases_lt, ne_eqb, eq-eqb, eqb-true, eqb-false}
use Rattle.std.proofs.Math.Dec.{eqb-suc-zero}
use Rattle.std.proofs.Math.Nat.{zero-div, zero-mod}
use Rattle.std.proofs.lemmas.Nat.{xor_comm, xor_shr, xor_mod, xor_block, xor_lt, and_comm, pow_pos}
use Rattle.std.proofs.lemmas.Nat.Bits.{bit_at_xor, bit_at_and, bit_at-lt, same_from_bits}
use Rattle.share_types.specs.Sums.{part_of_public, xor_to}
use Rattle.share_types.proofs.Parties.{xor_to_same}

-- (a xor b) xor (c xor d) ≡ (a xor c) xor (b xor d)
pub exchange : (a b c d : ℕ) → bit_xor (bit_xor a b) (bit_xor c d) ≡ bit_xor (bit_xor a c) (bit_xor b d)
exchange a b c d = same_from_bits _ _ (λ i. simp bit_at_xor (omega arith))

-- what is added once more is gone
pub undone : (x a : ℕ) → bit_xor (bit_xor x a) a ≡ x
undone x a = same_from_bits _ _ (λ i. simp bit_at_xor (let small = bit_at-lt x i in let other = bit_at-lt a i in omega arith))

pub xor_zero_r : (x : ℕ) → bit_xor x 0 ≡ x
xor_zero_r x = xor_comm x 0 ∙ xor_zero_l x

pub xor_plus : (n : ℕ) (f g : ℕ → ℕ) → xor_to n (λ p. bit_xor (f p) (g p)) ≡ bit_xor (xor_to n f) (xor_to n g)
xor_plus zero f g = refl
xor_plus (suc n) f g =
    ap (λ x. bit_xor x (bit_xor (f n) (g n))) (xor_plus n f g) ∙ exchange (xor_to n f) (xor_to n g) (f n) (g n)

none_of_public : (n c : ℕ) → part_of_public (suc n) c ≡ 0
none_of_public n c = rw eqb-suc-zero refl

-- party 0 alone has a public vector
pub xor_public : (n c : ℕ) → xor_to (suc n) (λ p. part_of_public p c) ≡ c
xor_public zero c = xor_zero_l c
xor_public (suc n) c = ap₂ bit_xor (xor_public n c) (none_of_public n c) ∙ xor_zero_r c

-- AND with a number goes over XOR, in each bit
spread_bit : (d a b : ℕ) → d < 2 → a < 2 → b < 2 → min d ((a + b) % 2) ≡ (min d a + min d b) % 2
spread_bit d a b p q r = omega arith

spread : (d a b : ℕ) → bit_and d (bit_xor a b) ≡ bit_xor (bit_and d a) (bit_and d b)
spread d a b = same_from_bits _ _ (λ i. simp (bit_at_xor, bit_at_and)
    (spread_bit (bit_at d i) (bit_at a i) (bit_at b i) (bit_at-lt d i) (bit_at-lt a i) (bit_at-lt b i)))

and_zero : (x : ℕ) → bit_and x 0 ≡ 0
and_zero x = and_comm x 0

pub xor_and : (n d : ℕ) (f : ℕ → ℕ) → xor_to n (λ p. bit_and d (f p)) ≡ bit_and d (xor_to n f)
xor_and zero d f = sym (and_zero d)
xor_and (suc n) d f = ap (λ x. bit_xor x (bit_and d (f n))) (xor_and n d f) ∙ sym (spread d (xor_to n f) (f n))

pub xor_slice : (n at w : ℕ) (f : ℕ → ℕ) → xor_to n (λ p. f p / 2 ^ at % 2 ^ w) ≡ xor_to n f / 2 ^ at % 2 ^ w
xor_slice zero at w f = sym (ap (λ n. n % 2 ^ w) (zero-div (2 ^ at)) ∙ zero-mod (2 ^ w))
xor_slice (suc n) at w f =
    ap (λ x. bit_xor x (f n / 2 ^ at % 2 ^ w)) (xor_slice n at w f)
    ∙ (sym (xor_mod (xor_to n f / 2 ^ at) (f n / 2 ^ at) w) ∙ ap (λ m. m % 2 ^ w) (sym (xor_shr (xor_to n f) (f n) at)))

pub xor_small : (n w : ℕ) (f : ℕ → ℕ) → ((p : ℕ) → p < n → f p < 2 ^ w) → xor_to n f < 2 ^ w
xor_small zero w f small = pow_pos w
xor_small (suc n) w f small = xor_lt w (xor_to n f) (f n) (xor_small n w f (λ p h. small p (omega (arith, h)))) (small n (omega arith))

joined : (w a b c d : ℕ) → a < 2 ^ w → c < 2 ^ w →
    bit_xor (a + 2 ^ w * b) (c + 2 ^ w * d) ≡ bit_xor a c + 2 ^ w * bit_xor b d
joined w a b c d p q =
    let left : a + 2 ^ w * b ≡ b * 2 ^ w + a = omega arith in
    let right : c + 2 ^ w * d ≡ d * 2 ^ w + c = omega arith in
    let whole : bit_xor b d * 2 ^ w + bit_xor a c ≡ bit_xor a c + 2 ^ w * bit_xor b d = omega arith in
    ap₂ bit_xor left right ∙ (xor_block w b d a c p q ∙ whole)

pub xor_join : (n w : ℕ) (f g : ℕ → ℕ) → ((p : ℕ) → p < n → f p < 2 ^ w) →
    xor_to n (λ p. f p + 2 ^ w * g p) ≡ xor_to n f + 2 ^ w * xor_to n g
xor_join zero w f g small = omega arith
xor_join (suc n) w f g small =
    let before = xor_join n w f g (λ p h. small p (omega (arith, h))) in
    ap (λ x. bit_xor x (f n + 2 ^ w * g n)) before
    ∙ joined w (xor_to n f) (xor_to n g) (f n) (g n) (xor_small n w f (λ p h. small p (omega (arith, h)))) (small n (omega arith))

-- the XOR of what a party has apart and of what all others have
pub one_apart : (n party a : ℕ) (f : ℕ → ℕ) → party < n →
    xor_to n (λ p. if party == p then a else f p) ≡ bit_xor a (xor_to n (λ q. if q == party then 0 else f q))
one_apart zero party a f h = absurd (omega (arith, h))
one_apart (suc n) party a f h = elim (cases_lt party n) as (λ _. bit_xor (xor_to n (λ p. if party == p then a else f p)) (if party == n then a else f n) ≡ bit_xor a (bit_xor (xor_to n (λ q. if q == party then 0 else f q)) (if n == party then 0 else f n))) [
  | inl small ↦
      (let left : (if party == n then a else f n) ≡ f n = ap (λ b. cond b a (f n)) (ne_eqb party n (λ e. omega (arith, small, e))) in
      let right : (if n == party then 0 else f n) ≡ f n = ap (λ b. cond b 0 (f n)) (ne_eqb n party (λ e. omega (arith, small, e))) in
      ap₂ bit_xor (one_apart n party a f small) left
      ∙ (xor_assoc a (xor_to n (λ q. if q == party then 0 else f q)) (f n)
      ∙ ap (λ y. bit_xor a (bit_xor (xor_to n (λ q. if q == party then 0 else f q)) y)) (sym right)))
  | inr large ↦
      (let here : party ≡ n = omega (arith, h, large) in
      let left : (if party == n then a else f n) ≡ a = ap (λ b. cond b a (f n)) (eq-eqb party n here) in
      let right : (if n == party then 0 else f n) ≡ 0 = ap (λ b. cond b 0 (f n)) (eq-eqb n party (sym here)) in
      let first : xor_to n (λ p. if party == p then a else f p) ≡ xor_to n f =
      xor_to_same n (λ p. if party == p then a else f p) f (λ p less. ap (λ b. cond b a (f p)) (ne_eqb party p (λ e. omega (arith, here, less, e)))) in
      let second : xor_to n (λ q. if q == party then 0 else f q) ≡ xor_to n f =
      xor_to_same n (λ q. if q == party then 0 else f q) f (λ q less. ap (λ b. cond b 0 (f q)) (ne_eqb q party (λ e. omega (arith, here, less, e)))) in
      ap₂ bit_xor first left ∙ (xor_comm (xor_to n f) a
      ∙ ap (bit_xor a) (sym (ap₂ bit_xor second right ∙ xor_zero_r (xor_to n f)))))
]

-- an opened vector is the XOR of all parts, where what was heard of the others are their parts
pub opened_xor : (n me : ℕ) (part vector : ℕ → ℕ) → ((q : ℕ) → q < n → (q ≡ me → ⊥) → vector q ≡ part q) →
    xor_to n (λ q. if q == me then part me else vector q) ≡ xor_to n part
opened_xor n me part vector heard = xor_to_same n (λ q. if q == me then part me else vector q) part (λ q h. at q h (q == me) refl)
  where
    at : (q : ℕ) → q < n → (b : Bool) → (q == me) ≡ b → cond b (part me) (vector q) ≡ part q
    at q h true e = ap part (sym (eqb-true q me e))
    at q h false e = heard q h (eqb-false q me e)
