-- Sums over parties modulo 2^64.
use Rattle.std.proofs.Common.{ℕ, zero, suc, ◌≡◌, ◌<◌, ◌+◌, ◌*◌, ◌%◌, ◌^◌, Bool, true, false, cond, inl, inr, refl, sym, ap, arith}
use Rattle.std.specs.Prelude.{◌==◌, if◌then◌else◌}
use Rattle.std.proofs.lemmas.Bool.{cases_lt, ne_eqb, eq-eqb, eqb-true, eqb-false}
use Rattle.std.proofs.Math.Dec.{eqb-suc-zero}
use Rattle.share_types.specs.Sums.{part_of_public, sum_to}
use Rattle.share_types.proofs.Parties.{sum_to_same}

-- parties that have the same modulo 2^64 have the same sum
pub sum_mod : (n : ℕ) (f g : ℕ → ℕ) → ((p : ℕ) → p < n → f p % 2 ^ 64 ≡ g p % 2 ^ 64) → sum_to n f % 2 ^ 64 ≡ sum_to n g % 2 ^ 64
sum_mod zero f g same = refl
sum_mod (suc n) f g same =
    let before = sum_mod n f g (λ p h. same p (omega (arith, h))) in
    let here = same n (omega arith) in
    omega (arith, before, here)

pub sum_plus : (n : ℕ) (f g : ℕ → ℕ) → sum_to n (λ p. f p + g p) ≡ sum_to n f + sum_to n g
sum_plus zero f g = refl
sum_plus (suc n) f g = let before = sum_plus n f g in omega (arith, before)

pub sum_times : (n : ℕ) (f : ℕ → ℕ) (c : ℕ) → sum_to n (λ p. f p * c) ≡ sum_to n f * c
sum_times zero f c = omega arith
sum_times (suc n) f c = let before = sum_times n f c in omega (arith, before)

pub none_of_public : (n c : ℕ) → part_of_public (suc n) c ≡ 0
none_of_public n c = rw eqb-suc-zero refl

-- party 0 alone has a public number
pub sum_public : (n c : ℕ) → sum_to (suc n) (λ p. part_of_public p c) ≡ c
sum_public zero c = omega arith
sum_public (suc n) c = let before = sum_public n c in let here = none_of_public n c in omega (arith, before, here)

-- the sum of what a party has apart and of what all others have
pub one_apart : (n party a : ℕ) (f : ℕ → ℕ) → party < n →
    sum_to n (λ p. if party == p then a else f p) ≡ a + sum_to n (λ q. if q == party then 0 else f q)
one_apart zero party a f h = absurd (omega (arith, h))
one_apart (suc n) party a f h = elim (cases_lt party n) as (λ _. sum_to n (λ p. if party == p then a else f p) + (if party == n then a else f n) ≡ a + (sum_to n (λ q. if q == party then 0 else f q) + (if n == party then 0 else f n))) [
  | inl small ↦
      (let before = one_apart n party a f small in
      let left : (if party == n then a else f n) ≡ f n = ap (λ b. cond b a (f n)) (ne_eqb party n (λ e. omega (arith, small, e))) in
      let right : (if n == party then 0 else f n) ≡ f n = ap (λ b. cond b 0 (f n)) (ne_eqb n party (λ e. omega (arith, small, e))) in
      omega (arith, before, left, right))
  | inr large ↦
      (let here : party ≡ n = omega (arith, h, large) in
      let left : (if party == n then a else f n) ≡ a = ap (λ b. cond b a (f n)) (eq-eqb party n here) in
      let right : (if n == party then 0 else f n) ≡ 0 = ap (λ b. cond b 0 (f n)) (eq-eqb n party (sym here)) in
      let first : sum_to n (λ p. if party == p then a else f p) ≡ sum_to n f =
      sum_to_same n (λ p. if party == p then a else f p) f (λ p less. ap (λ b. cond b a (f p)) (ne_eqb party p (λ e. omega (arith, here, less, e)))) in
      let second : sum_to n (λ q. if q == party then 0 else f q) ≡ sum_to n f =
      sum_to_same n (λ q. if q == party then 0 else f q) f (λ q less. ap (λ b. cond b 0 (f q)) (ne_eqb q party (λ e. omega (arith, here, less, e)))) in
      omega (arith, left, right, first, second))
]

-- an opened word is the sum of all parts, where what was heard of the others are their parts
pub opened_sum : (n me : ℕ) (part word : ℕ → ℕ) → ((q : ℕ) → q < n → (q ≡ me → ⊥) → word q % 2 ^ 64 ≡ part q % 2 ^ 64) →
    sum_to n (λ q. if q == me then part me else word q) % 2 ^ 64 ≡ sum_to n part % 2 ^ 64
opened_sum n me part word heard = sum_mod n (λ q. if q == me then part me else word q) part (λ q h. at q h (q == me) refl)
  where
    at : (q : ℕ) → q < n → (b : Bool) → (q == me) ≡ b → cond b (part me) (word q) % 2 ^ 64 ≡ part q % 2 ^ 64
    at q h true e = ap (λ k. part k % 2 ^ 64) (sym (eqb-true q me e))
    at q h false e = heard q h (eqb-false q me e)
