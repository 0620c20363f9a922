-- The parties' shares of a table are shares of the garbled table.
use Rattle.std.proofs.Common.{◌≡◌, ℕ, ◌<◌, ◌&&◌, Bool, true, false, refl, sym, ap, ap₂, ◌∙◌, arith}
use Rattle.std.specs.Prelude.{bit_and}
use Rattle.std.proofs.lemmas.Nat.Bits.{bit_at_xor, same_from_bits}
use Rattle.share_types.specs.Bits.{differ}
use Rattle.share_types.specs.Sums.{xor_to}
use Rattle.share_types.specs.Keys.{◌⊕◌, bit, times}
use Rattle.bmr_keys.specs.Hiding.{hiding_key}
use Rattle.bmr_keys.specs.Mask.{Mask}
use Rattle.bmr_keys.specs.Wires.{AreTimes}
use Rattle.bmr_keys.proofs.Labels.{bit-and, times-differ, times-times}
use Rattle.bmr_keys.proofs.Sums.{xor-both, xor-one, xor-times}
use Rattle.bmr_garble.specs.Table.{own_part, share_entry}
use Rattle.bmr_garble.specs.Laws.{SharesJoin}

-- the law of one bit: (x xor s) and (y xor t), with z the mask of the result
one_bit : (x y s t z : Bool) →
    differ (differ (differ (differ (x && y) (t && x)) (s && y)) (s && t)) z ≡ differ (differ x s && differ y t) z
one_bit true true true true z = refl
one_bit true true true false z = refl
one_bit true true false true z = refl
one_bit true true false false z = refl
one_bit true false true true z = refl
one_bit true false true false z = refl
one_bit true false false true z = refl
one_bit true false false false z = refl
one_bit false true true true z = refl
one_bit false true true false z = refl
one_bit false true false true z = refl
one_bit false true false false z = refl
one_bit false false true true z = refl
one_bit false false true false z = refl
one_bit false false false true z = refl
one_bit false false false false z = refl

regroup : (h a b c d k e : ℕ) → h ⊕ a ⊕ b ⊕ c ⊕ d ⊕ (k ⊕ e) ≡ h ⊕ k ⊕ (a ⊕ b ⊕ c ⊕ e ⊕ d)
regroup h a b c d k e = same_from_bits _ _ (λ i. simp bit_at_xor (omega arith))

-- five bits times one key
gathered : (a b c e d : Bool) (key : ℕ) →
    times a key ⊕ times b key ⊕ times c key ⊕ times e key ⊕ times d key ≡ times (differ (differ (differ (differ a b) c) e) d) key
gathered a b c e d key =
    ap (λ m. m ⊕ times c key ⊕ times e key ⊕ times d key) (sym (times-differ a b key))
    ∙ (ap (λ m. m ⊕ times e key ⊕ times d key) (sym (times-differ (differ a b) c key))
    ∙ (ap (λ m. m ⊕ times d key) (sym (times-differ (differ (differ a b) c) e key))
    ∙ sym (times-differ (differ (differ (differ a b) c) e) d key)))

module _ (n : ℕ) (offset : ℕ → ℕ) (gate : ℕ) (u v w : ℕ → Mask) (product : ℕ → ℕ → ℕ → ℕ) (x y z : ℕ)
    (left : AreTimes n offset (λ p. (u p).shares) x) (right : AreTimes n offset (λ p. (v p).shares) y)
    (result : AreTimes n offset (λ p. (w p).shares) z) (products : AreTimes n offset product (bit_and x y))
    (i r j : ℕ) (small : j < n) where
  abbrev s : Bool
  s = bit r 1

  abbrev t : Bool
  t = bit r 0

  abbrev hidden : ℕ → ℕ
  hidden p = hiding_key ((u p).keys i ⊕ times s (offset p)) ((v p).keys i ⊕ times t (offset p)) gate i r j

  abbrev own : ℕ → ℕ
  own p = own_part p (offset p) (w p) i r j

  -- the XOR of the parties' shares, part by part
  apart : xor_to n (λ p. share_entry p (offset p) gate (u p) (v p) (w p) (product p) i r j)
      ≡ xor_to n hidden ⊕ xor_to n (λ p. product p i j) ⊕ xor_to n (λ p. times t ((u p).shares i j))
      ⊕ xor_to n (λ p. times s ((v p).shares i j)) ⊕ xor_to n (λ p. (w p).shares i j) ⊕ xor_to n own
  apart =
      xor-both n (λ p. hidden p ⊕ product p i j ⊕ times t ((u p).shares i j) ⊕ times s ((v p).shares i j) ⊕ (w p).shares i j) own
      ∙ ap (λ m. m ⊕ xor_to n own)
      (xor-both n (λ p. hidden p ⊕ product p i j ⊕ times t ((u p).shares i j) ⊕ times s ((v p).shares i j)) (λ p. (w p).shares i j)
      ∙ ap (λ m. m ⊕ xor_to n (λ p. (w p).shares i j))
      (xor-both n (λ p. hidden p ⊕ product p i j ⊕ times t ((u p).shares i j)) (λ p. times s ((v p).shares i j))
      ∙ ap (λ m. m ⊕ xor_to n (λ p. times s ((v p).shares i j)))
      (xor-both n (λ p. hidden p ⊕ product p i j) (λ p. times t ((u p).shares i j))
      ∙ ap (λ m. m ⊕ xor_to n (λ p. times t ((u p).shares i j))) (xor-both n hidden (λ p. product p i j)))))

  product_part : xor_to n (λ p. product p i j) ≡ times (bit x i && bit y i) (offset j)
  product_part = products i j small ∙ ap (λ b. times b (offset j)) (bit-and x y i)

  left_part : xor_to n (λ p. times t ((u p).shares i j)) ≡ times (t && bit x i) (offset j)
  left_part = xor-times n t (λ p. (u p).shares i j) ∙ (ap (times t) (left i j small) ∙ times-times t (bit x i) (offset j))

  right_part : xor_to n (λ p. times s ((v p).shares i j)) ≡ times (s && bit y i) (offset j)
  right_part = xor-times n s (λ p. (v p).shares i j) ∙ (ap (times s) (right i j small) ∙ times-times s (bit y i) (offset j))

  own_is : xor_to n own ≡ (w j).keys i ⊕ times (s && t) (offset j)
  own_is = xor-one n j (λ p. (w p).keys i ⊕ times (s && t) (offset p)) small

  abbrev sum : ℕ → ℕ → ℕ → ℕ → ℕ → ℕ
  sum a b c d e = xor_to n hidden ⊕ a ⊕ b ⊕ c ⊕ d ⊕ e

  pub joined : xor_to n (λ p. share_entry p (offset p) gate (u p) (v p) (w p) (product p) i r j)
      ≡ xor_to n hidden ⊕ (w j).keys i ⊕ times (differ (differ (bit x i) s && differ (bit y i) t) (bit z i)) (offset j)
  joined =
      apart
      ∙ (ap (λ a. sum a (xor_to n (λ p. times t ((u p).shares i j))) (xor_to n (λ p. times s ((v p).shares i j))) (xor_to n (λ p. (w p).shares i j)) (xor_to n own)) product_part
      ∙ (ap₂ (λ (b c : ℕ). sum (times (bit x i && bit y i) (offset j)) b c (xor_to n (λ p. (w p).shares i j)) (xor_to n own)) left_part right_part
      ∙ (ap₂ (λ (d e : ℕ). sum (times (bit x i && bit y i) (offset j)) (times (t && bit x i) (offset j)) (times (s && bit y i) (offset j)) d e) (result i j small) own_is
      ∙ (regroup (xor_to n hidden) (times (bit x i && bit y i) (offset j)) (times (t && bit x i) (offset j)) (times (s && bit y i) (offset j))
      (times (bit z i) (offset j)) ((w j).keys i) (times (s && t) (offset j))
      ∙ (ap (λ m. xor_to n hidden ⊕ (w j).keys i ⊕ m) (gathered (bit x i && bit y i) (t && bit x i) (s && bit y i) (s && t) (bit z i) (offset j))
      ∙ ap (λ b. xor_to n hidden ⊕ (w j).keys i ⊕ times b (offset j)) (one_bit (bit x i) (bit y i) s t (bit z i)))))))

pub shares-join : SharesJoin
shares-join n offset gate u v w product x y z left right result products i r j small =
    joined n offset gate u v w product x y z left right result products i r j small
