-- Bit triples that stand together, as vectors.
use Rattle.std.proofs.Common.{ℕ, zero, suc, ◌≡◌, ◌<◌, ◌≤◌, ◌+◌, ◌*◌, ◌^◌, List, [], ◌∷◌, length, take, drop, refl, sym, ◌∙◌, ap, ap₂, arith}
use Rattle.std.specs.Prelude.{slice_index, bit_and, bit_xor}
use Rattle.std.specs.Int.{bit_at}
use Rattle.std.proofs.lemmas.Nat.{and_block}
use Rattle.std.proofs.lemmas.Nat.Bits.{bit_at-lt}
use Rattle.share_types.specs.Sums.{xor_to}
use Rattle.share_types.proofs.Parties.{xor_to_same}
use Rattle.dealer_files.specs.Records.{vector_of}
use Rattle.dealer_files.proofs.Vectors.{vector-cons}
use Rattle.boolean_gmw.proofs.Xors.{xor_join, xor_small}

vector-nil : (bit : ℕ) → vector_of bit [] ≡ 0
unfolding vector_of
vector-nil bit = refl

taken-more : (xs : List ℕ) (off w : ℕ) → off < length xs → take (suc w) (drop off xs) ≡ slice_index xs off ∷ take w (drop (suc off) xs)
taken-more [] off w h = absurd (omega (arith, h))
taken-more (x ∷ xs) zero w h = refl
taken-more (x ∷ xs) (suc off) w h = taken-more xs off w (omega (arith, h))

and_joined : (a b u v : ℕ) → a < 2 → b < 2 → bit_and (a + 2 ^ 1 * u) (b + 2 ^ 1 * v) ≡ bit_and a b + 2 ^ 1 * bit_and u v
and_joined a b u v p q =
    let left : a + 2 ^ 1 * u ≡ u * 2 ^ 1 + a = omega arith in
    let right : b + 2 ^ 1 * v ≡ v * 2 ^ 1 + b = omega arith in
    let whole : bit_and u v * 2 ^ 1 + bit_and a b ≡ bit_and a b + 2 ^ 1 * bit_and u v = omega arith in
    ap₂ bit_and left right ∙ (and_block 1 u v a b p q ∙ whole)

xor_nothing : (m bit : ℕ) → xor_to m (λ p. vector_of bit []) ≡ 0
xor_nothing zero bit = refl
xor_nothing (suc m) bit = ap₂ bit_xor (xor_nothing m bit) (vector-nil bit)

module _ (m : ℕ) (records : ℕ → List ℕ) where
  -- the parties' bits of one record, and of some that stand together
  abbrev bits_at : ℕ → ℕ → ℕ → ℕ
  bits_at bit i p = bit_at (slice_index (records p) i) bit

  abbrev pub vectors_at : ℕ → ℕ → ℕ → ℕ → ℕ
  vectors_at bit off w p = vector_of bit (take w (drop off (records p)))

  more : (bit off w : ℕ) → ((p : ℕ) → p < m → off < length (records p)) →
      xor_to m (vectors_at bit off (suc w)) ≡ xor_to m (bits_at bit off) + 2 ^ 1 * xor_to m (vectors_at bit (suc off) w)
  more bit off w long =
      xor_to_same m (vectors_at bit off (suc w)) (λ p. bits_at bit off p + 2 ^ 1 * vectors_at bit (suc off) w p)
      (λ p h.
      let cons = vector-cons bit (slice_index (records p) off) (take w (drop (suc off) (records p))) in
      ap (vector_of bit) (taken-more (records p) off w (long p h)) ∙ omega (arith, cons))
      ∙ xor_join m 1 (bits_at bit off) (vectors_at bit (suc off) w) (λ p h. bit_at-lt (slice_index (records p) off) bit)

  pub triples_vector : (off w : ℕ) → ((p : ℕ) → p < m → off + w ≤ length (records p)) →
      ((i : ℕ) → off ≤ i → i < off + w → xor_to m (bits_at 2 i) ≡ bit_and (xor_to m (bits_at 0 i)) (xor_to m (bits_at 1 i))) →
      xor_to m (vectors_at 2 off w) ≡ bit_and (xor_to m (vectors_at 0 off w)) (xor_to m (vectors_at 1 off w))
  triples_vector off zero long each =
      xor_nothing m 2 ∙ sym (ap₂ bit_and (xor_nothing m 0) (xor_nothing m 1))
  triples_vector off (suc w) long each =
      let inside : (p : ℕ) → p < m → off < length (records p) = λ p h. (let enough = long p h in omega (arith, enough)) in
      let small : (bit : ℕ) → xor_to m (bits_at bit off) < 2 = λ bit. xor_small m 1 (bits_at bit off) (λ p h. bit_at-lt (slice_index (records p) off) bit) in
      let here = each off (omega arith) (omega arith) in
      let rest = triples_vector (suc off) w (λ p h. let enough = long p h in omega (arith, enough))
      (λ i low high. each i (omega (arith, low)) (omega (arith, high))) in
      more 2 off w inside
      ∙ (ap₂ (λ b v. b + 2 ^ 1 * v) here rest
      ∙ sym (ap₂ bit_and (more 0 off w inside) (more 1 off w inside)
      ∙ and_joined (xor_to m (bits_at 0 off)) (xor_to m (bits_at 1 off)) (xor_to m (vectors_at 0 (suc off) w)) (xor_to m (vectors_at 1 (suc off) w)) (small 0) (small 1)))
