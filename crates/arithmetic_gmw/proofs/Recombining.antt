-- Why what the parties make of their shares are shares of what the calls stand for.
use Rattle.std.proofs.Common.{◌≡◌, ℕ, zero, suc, ◌+◌, ◌*◌, ◌%◌, ◌^◌, refl, sym, ap, ◌∙◌, arith}
use Rattle.std.proofs.lemmas.Nat.{mul-mod}
use Rattle.share_types.specs.declared.records.MultTriple.{MultTriple}
use Rattle.share_types.specs.Sums.{word_sum, word_difference, word_product, part_of_public, sum_to}
use Rattle.arithmetic_gmw.specs.Shares.{opened_left, opened_right, closed_share}
use Rattle.arithmetic_gmw.specs.Laws.{IsTriple, AreShares, SumRecombines, DifferenceRecombines, ScaledRecombines, RaisedRecombines, ProductRecombines}
use Rattle.arithmetic_gmw.proofs.Sums.{sum_mod, sum_plus, sum_times, sum_public, none_of_public}

-- a and b are the same modulo 2^64
record Same (a b : ℕ) : Type 0 where
  is : a % 2 ^ 64 ≡ b % 2 ^ 64

-- products of what is the same modulo 2^64 are the same
times : {a b c d : ℕ} → Same a b → Same c d → Same (a * c) (b * d)
times {a} {b} {c} {d} e f = record { is = mul-mod a c (2 ^ 64) ∙ (rw (e.is, f.is) refl ∙ sym (mul-mod b d (2 ^ 64))) }

pub sum-recombines : SumRecombines
sum-recombines n f g x y left right =
    let same = sum_mod n (λ p. word_sum (f p) (g p)) (λ p. f p + g p) (λ p h. omega arith) in
    let split = sum_plus n f g in
    omega (arith, left, right, same, split)

pub difference-recombines : DifferenceRecombines
difference-recombines n f g x y left right =
    let same = sum_mod n (λ p. word_difference (f p) (g p) + g p) f (λ p h. omega arith) in
    let split = sum_plus n (λ p. word_difference (f p) (g p)) g in
    omega (arith, left, right, same, split)

pub scaled-recombines : ScaledRecombines
scaled-recombines n f x c left =
    sum_mod n (λ p. word_product (f p) c) (λ p. f p * c) (λ p h. omega arith)
    ∙ (ap (λ s. s % 2 ^ 64) (sum_times n f c)
    ∙ (times {a = sum_to n f} {b = x} {c = c} {d = c} (record { is = left }) (record { is = refl })).is)

pub raised-recombines : RaisedRecombines
raised-recombines zero f x c some left = absurd (omega (arith, some))
raised-recombines (suc n) f x c some left =
    sum-recombines (suc n) f (λ p. part_of_public p c) x c left (let whole = sum_public n c in omega (arith, whole))

-- ---- products

module _ (left right : ℕ → ℕ) (triple : ℕ → MultTriple) where
  abbrev sum_a : ℕ → ℕ
  sum_a n = sum_to n (λ p. (triple p).a)

  abbrev sum_b : ℕ → ℕ
  sum_b n = sum_to n (λ p. (triple p).b)

  abbrev sum_c : ℕ → ℕ
  sum_c n = sum_to n (λ p. (triple p).c)

  -- what is opened is less by the triple's part than what is shared
  lefts : (n : ℕ) → Same (sum_to n (λ p. opened_left (left p) (triple p)) + sum_a n) (sum_to n left)
  lefts zero = record { is = refl }
  lefts (suc n) = let rest = (lefts n).is in record { is = omega arith }

  rights : (n : ℕ) → Same (sum_to n (λ p. opened_right (right p) (triple p)) + sum_b n) (sum_to n right)
  rights zero = record { is = refl }
  rights (suc n) = let rest = (rights n).is in record { is = omega arith }

  -- the closed shares of all parties
  closed : (n d e : ℕ) →
      Same (sum_to (suc n) (λ p. closed_share p (triple p) d e))
      (sum_c (suc n) + d * sum_b (suc n) + e * sum_a (suc n) + d * e)
  closed zero d e = record { is = omega arith }
  closed (suc n) d e =
      let rest = (closed n d e).is in
      let nothing = none_of_public n (d * e) in record { is = omega arith }

  product_of : (n x y d e : ℕ) → IsTriple n triple → AreShares n left x → AreShares n right y →
      AreShares n (λ p. opened_left (left p) (triple p)) d → AreShares n (λ p. opened_right (right p) (triple p)) e →
      AreShares n (λ p. closed_share p (triple p) d e) (x * y)
  product_of zero x y d e triples as_x as_y as_d as_e =
      (times {a = 0} {b = x} {c = 0} {d = y} (record { is = as_x }) (record { is = as_y })).is
  product_of (suc n) x y d e triples as_x as_y as_d as_e =
      let first = (lefts (suc n)).is in
      let second = (rights (suc n)).is in
      let here = (closed n d e).is in
      let whole_x : Same (d + sum_a (suc n)) x = record { is = omega arith } in
      let whole_y : Same (e + sum_b (suc n)) y = record { is = omega arith } in
      let product = (times whole_x whole_y).is in
      omega arith

pub product-recombines : ProductRecombines
product-recombines n left right triple = product_of left right triple n
