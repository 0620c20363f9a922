-- What all parties see of wires recombines.
use Rattle.std.proofs.Common.{◌≡◌, ℕ, ◌+◌, ◌-◌, ◌%◌, ◌^◌, ◌<◌, ◌≤◌, ◌&&◌, Bool, true, false, refl, sym, ap, ap₂, subst, ◌∙◌, arith, inl, inr}
use Rattle.std.specs.Prelude.{bit_and}
use Rattle.std.specs.Int.Bits.{xor_zero_l, xor_assoc}
use Rattle.std.proofs.lemmas.Bool.{cases_lt}
use Rattle.std.proofs.lemmas.Nat.{xor_comm, pow_pos, and_le_l}
use Rattle.std.proofs.Math.Nat.{mod-eq_of_lt}
use Rattle.share_types.specs.Bits.{differ, number}
use Rattle.share_types.specs.Sums.{xor_to, part_of_public, each}
use Rattle.share_types.specs.Keys.{◌⊕◌, bit, times}
use Rattle.share_types.proofs.Parties.{xor_to_same}
use Rattle.bmr_keys.specs.Hiding.{hiding_key}
use Rattle.bmr_keys.specs.Mask.{Mask, cut, behind, slice, join}
use Rattle.bmr_keys.specs.Wires.{Active, whole, AreZeroKeys, HasWidth, IsActive, AreOdd}
use Rattle.bmr_keys.proofs.Labels.{bit-xor, bit-and, bit-zero, bit-low, bit-above, same-bits, bit-slice, bit-slice_above, bit-join, bit-join_above, slice-xor, join-xor, bit-number, bit-number_above, bit-times, cut-inside, cut-outside, exchange, undone, xor_same, xor_zero_r}
use Rattle.bmr_keys.proofs.Sums.{xor-both, xor-public, xor-slice}
use Rattle.bmr_keys.proofs.Masks.{times-sum, behind-inside, behind-outside, xor-join}
use Rattle.bmr_garble.specs.Table.{Entries, IsGarbled}
use Rattle.bmr_eval.specs.Active.{row_of, row_at, result_key, and_active}
use Rattle.bmr_eval.specs.Laws.{EntryRecombines, ZeroRecombines, FlipRecombines, XorRecombines, SliceRecombines, JoinRecombines, AndRecombines, WiresEvaluate}

pub entry-recombines : EntryRecombines
entry-recombines n offset u x masked e = record { masked = e; keys = λ i j small. refl }

pub zero-recombines : ZeroRecombines
zero-recombines n offset c some = record {
  masked = sym (ap (λ m. c ⊕ m) (xor-public n c some) ∙ xor_same c);
  keys = λ i j small. sym (xor_zero_l (times (bit 0 i) (offset j)) ∙ ap (λ b. times b (offset j)) (bit-zero i));
}

-- x and its mask, both flipped
flipped_mask : (x m c : ℕ) → x ⊕ m ≡ (x ⊕ c) ⊕ (m ⊕ c)
flipped_mask x m c = sym (exchange x c m c ∙ (ap (λ k. (x ⊕ m) ⊕ k) (xor_same c) ∙ xor_zero_r (x ⊕ m)))

pub flip-recombines : FlipRecombines
flip-recombines n offset u x c a some wire = record {
  masked =
      wire.masked ∙ (flipped_mask x (whole n u) c
      ∙ ap (λ m. (x ⊕ c) ⊕ m) (sym (xor-both n (λ p. (u p).mask) (λ p. part_of_public p c) ∙ ap (λ m. whole n u ⊕ m) (xor-public n c some))));
  keys = wire.keys;
}

pub xor-recombines : XorRecombines
xor-recombines n offset u v x y a b left right = record {
  masked =
      ap₂ (λ (s t : ℕ). s ⊕ t) left.masked right.masked
      ∙ (exchange x (whole n u) y (whole n v) ∙ ap (λ m. (x ⊕ y) ⊕ m) (sym (xor-both n (λ p. (u p).mask) (λ p. (v p).mask))));
  keys = λ i j small.
      ap₂ (λ (s t : ℕ). s ⊕ t) (left.keys i j small) (right.keys i j small)
      ∙ (exchange ((u j).keys i) (times (bit a.masked i) (offset j)) ((v j).keys i) (times (bit b.masked i) (offset j))
      ∙ ap (λ m. ((u j).keys i ⊕ (v j).keys i) ⊕ m) (times-sum a.masked b.masked i (offset j)));
}

-- nothing and no offset
no_key : (w x i offset : ℕ) → bit x i ≡ false → 0 ≡ 0 ⊕ times (bit x i) offset
no_key w x i offset e = sym (xor_zero_l (times (bit x i) offset) ∙ ap (λ b. times b offset) e)

pub slice-recombines : SliceRecombines
slice-recombines n offset u x at w a wire = record {
  masked =
      ap (slice at w) wire.masked
      ∙ (slice-xor at w x (whole n u) ∙ ap (λ m. slice at w x ⊕ m) (sym (xor-slice n at w (λ p. (u p).mask))));
  keys = λ i j small. elim (cases_lt i w) as
      (λ _. cut w (λ k. a.keys (at + k) j) i ≡ cut w (λ k. (u j).keys (at + k)) i ⊕ times (bit (slice at w a.masked) i) (offset j)) [
        | inl inside ↦
            cut-inside w (λ k. a.keys (at + k) j) i inside
            ∙ (wire.keys (at + i) j small
            ∙ ap₂ (λ (k : ℕ) (b : Bool). k ⊕ times b (offset j)) (sym (cut-inside w (λ k. (u j).keys (at + k)) i inside)) (sym (bit-slice at w a.masked i inside)))
        | inr outside ↦
            cut-outside w (λ k. a.keys (at + k) j) i outside
            ∙ (no_key w (slice at w a.masked) i (offset j) (bit-slice_above at w a.masked i outside)
            ∙ ap (λ k. k ⊕ times (bit (slice at w a.masked) i) (offset j)) (sym (cut-outside w (λ k. (u j).keys (at + k)) i outside)))
      ];
}

pub join-recombines : JoinRecombines
join-recombines n offset u v x y w a b left right = record {
  masked =
      ap₂ (join w) left.masked right.masked
      ∙ (join-xor w x (whole n u) y (whole n v) ∙ ap (λ m. join w x y ⊕ m) (sym (xor-join n w (λ p. (u p).mask) (λ p. (v p).mask))));
  keys = λ i j small. elim (cases_lt i w) as
      (λ _. behind w (λ k. a.keys k j) (λ k. b.keys k j) i ≡ behind w (u j).keys (v j).keys i ⊕ times (bit (join w a.masked b.masked) i) (offset j)) [
        | inl inside ↦
            behind-inside w (λ k. a.keys k j) (λ k. b.keys k j) i inside
            ∙ (left.keys i j small
            ∙ ap₂ (λ (k : ℕ) (s : Bool). k ⊕ times s (offset j)) (sym (behind-inside w (u j).keys (v j).keys i inside)) (sym (bit-join w a.masked b.masked i inside)))
        | inr outside ↦
            behind-outside w (λ k. a.keys k j) (λ k. b.keys k j) i outside
            ∙ (right.keys (i - w) j small
            ∙ ap₂ (λ (k : ℕ) (s : Bool). k ⊕ times s (offset j)) (sym (behind-outside w (u j).keys (v j).keys i outside)) (sym (bit-join_above w a.masked b.masked i outside)))
      ];
}

-- ## The garbled AND
row-left : (s t : Bool) → bit (row_of s t) 1 ≡ s
row-left true true = refl
row-left true false = refl
row-left false true = refl
row-left false false = refl

row-right : (s t : Bool) → bit (row_of s t) 0 ≡ t
row-right true true = refl
row-right true false = refl
row-right false true = refl
row-right false false = refl

pub row-below : (s t : Bool) → row_of s t < 4
row-below true true = omega arith
row-below true false = omega arith
row-below false true = omega arith
row-below false false = omega arith

-- what hides an entry is gone
uncovered : (h k t : ℕ) → (h ⊕ k ⊕ t) ⊕ h ≡ k ⊕ t
uncovered h k t = ap (λ m. m ⊕ h) (xor_assoc h k t) ∙ (ap (λ m. m ⊕ h) (xor_comm h (k ⊕ t)) ∙ undone (k ⊕ t) h)

unmasked : (m x : Bool) → differ m (differ x m) ≡ x
unmasked true true = refl
unmasked true false = refl
unmasked false true = refl
unmasked false false = refl

odd_choice : (b : Bool) → (b && true) ≡ b
odd_choice true = refl
odd_choice false = refl

bit-low_above : (x w i : ℕ) → w ≤ i → bit (x % 2 ^ w) i ≡ false
bit-low_above x w i outside = let positive = pow_pos w in bit-above (x % 2 ^ w) w i (omega arith) outside

module _ (n w : ℕ) (offset : ℕ → ℕ) (gate : ℕ) (u v m : ℕ → Mask) (entries : Entries) (x y : ℕ) (a b : Active)
    (garbled : IsGarbled n w offset gate u v m (whole n u) (whole n v) (whole n m) entries)
    (left : IsActive n offset u x a) (right : IsActive n offset v y b)
    (some : 0 < n) (odd : AreOdd n offset) (zeros : AreZeroKeys n m) (wide : HasWidth n w m) where
  abbrev result : ℕ
  result = bit_and x y ⊕ whole n m

  -- the masked bit of the result
  masked-bit : (i : ℕ) →
      differ (differ (bit (whole n u) i) (bit a.masked i) && differ (bit (whole n v) i) (bit b.masked i)) (bit (whole n m) i) ≡ bit result i
  masked-bit i =
      let first : differ (bit (whole n u) i) (bit a.masked i) ≡ bit x i =
      ap (λ k. differ (bit (whole n u) i) (bit k i)) left.masked
      ∙ (ap (differ (bit (whole n u) i)) (bit-xor x (whole n u) i) ∙ unmasked (bit (whole n u) i) (bit x i)) in
      let second : differ (bit (whole n v) i) (bit b.masked i) ≡ bit y i =
      ap (λ k. differ (bit (whole n v) i) (bit k i)) right.masked
      ∙ (ap (differ (bit (whole n v) i)) (bit-xor y (whole n v) i) ∙ unmasked (bit (whole n v) i) (bit y i)) in
      ap₂ (λ (s t : Bool). differ (s && t) (bit (whole n m) i)) first second
      ∙ (ap (λ s. differ s (bit (whole n m) i)) (sym (bit-and x y i)) ∙ sym (bit-xor (bit_and x y) (whole n m) i))

  abbrev r : ℕ → ℕ
  r i = row_at a b i

  -- what hides the entry, by the active keys and by the zero keys
  hidden-is : (i j : ℕ) →
      xor_to n (λ q. hiding_key ((u q).keys i ⊕ times (bit (r i) 1) (offset q)) ((v q).keys i ⊕ times (bit (r i) 0) (offset q)) gate i (r i) j)
      ≡ xor_to n (λ q. hiding_key (a.keys i q) (b.keys i q) gate i (r i) j)
  hidden-is i j = xor_to_same n _ _ (λ q small. ap₂ (λ (k l : ℕ). hiding_key k l gate i (r i) j)
      (ap (λ s. (u q).keys i ⊕ times s (offset q)) (row-left (bit a.masked i) (bit b.masked i)) ∙ sym (left.keys i q small))
      (ap (λ s. (v q).keys i ⊕ times s (offset q)) (row-right (bit a.masked i) (bit b.masked i)) ∙ sym (right.keys i q small)))

  key-is : (i j : ℕ) → i < w → j < n → result_key n entries gate a b i j ≡ (m j).keys i ⊕ times (bit result i) (offset j)
  key-is i j inside small =
      let hidden = xor_to n (λ q. hiding_key (a.keys i q) (b.keys i q) gate i (r i) j) in
      let entry : entries i (r i) j ≡ hidden ⊕ (m j).keys i ⊕ times (bit result i) (offset j) =
      garbled i (r i) j inside (row-below (bit a.masked i) (bit b.masked i)) small
      ∙ ap₂ (λ (h : ℕ) (s : Bool). h ⊕ (m j).keys i ⊕ times s (offset j)) (hidden-is i j)
      (ap₂ (λ (s t : Bool). differ (differ (bit (whole n u) i) s && differ (bit (whole n v) i) t) (bit (whole n m) i))
      (row-left (bit a.masked i) (bit b.masked i)) (row-right (bit a.masked i) (bit b.masked i)) ∙ masked-bit i) in
      ap (λ k. k ⊕ hidden) entry ∙ uncovered hidden ((m j).keys i) (times (bit result i) (offset j))

  least-is : (i : ℕ) → i < w → bit (result_key n entries gate a b i 0) 0 ≡ bit result i
  least-is i inside =
      ap (λ k. bit k 0) (key-is i 0 inside some)
      ∙ (bit-xor ((m 0).keys i) (times (bit result i) (offset 0)) 0
      ∙ (ap₂ differ (zeros 0 i some) (bit-times (bit result i) (offset 0) 0 ∙ ap (λ s. bit result i && s) (odd 0 some))
      ∙ odd_choice (bit result i)))

  abbrev least : ℕ → Bool
  least i = bit (result_key n entries gate a b i 0) 0

  masked-is : number (each w least) ≡ bit_and x y % 2 ^ w ⊕ whole n m
  masked-is = same-bits _ _ (λ i. elim (cases_lt i w) as (λ _. bit (number (each w least)) i ≡ bit (bit_and x y % 2 ^ w ⊕ whole n m) i) [
    | inl inside ↦
        bit-number w least i inside ∙ (least-is i inside ∙ (bit-xor (bit_and x y) (whole n m) i
        ∙ (ap (λ s. differ s (bit (whole n m) i)) (sym (bit-low (bit_and x y) w i inside)) ∙ sym (bit-xor (bit_and x y % 2 ^ w) (whole n m) i))))
    | inr outside ↦
        bit-number_above w least i outside
        ∙ sym (bit-xor (bit_and x y % 2 ^ w) (whole n m) i ∙ ap₂ differ (bit-low_above (bit_and x y) w i outside) (wide.bits i outside))
  ])

  keys-are : (i j : ℕ) → j < n →
      cut w (λ k. result_key n entries gate a b k j) i ≡ (m j).keys i ⊕ times (bit (number (each w least)) i) (offset j)
  keys-are i j small = elim (cases_lt i w) as
      (λ _. cut w (λ k. result_key n entries gate a b k j) i ≡ (m j).keys i ⊕ times (bit (number (each w least)) i) (offset j)) [
        | inl inside ↦
            cut-inside w (λ k. result_key n entries gate a b k j) i inside
            ∙ (key-is i j inside small
            ∙ ap (λ s. (m j).keys i ⊕ times s (offset j)) (sym (bit-number w least i inside ∙ least-is i inside)))
        | inr outside ↦
            cut-outside w (λ k. result_key n entries gate a b k j) i outside
            ∙ sym (ap₂ (λ (k : ℕ) (s : Bool). k ⊕ times s (offset j)) (wide.keys i j outside small) (bit-number_above w least i outside) ∙ xor_zero_l 0)
      ]

  pub and-is : IsActive n offset m (bit_and x y % 2 ^ w) (and_active n w entries gate a b)
  and-is = record { masked = masked-is; keys = keys-are }

pub and-recombines : AndRecombines
and-recombines n w offset gate u v m entries x y a b garbled left right some odd zeros wide =
    and-is n w offset gate u v m entries x y a b garbled left right some odd zeros wide

and-low : (x y w : ℕ) → x < 2 ^ w → bit_and x y % 2 ^ w ≡ bit_and x y
and-low x y w small = let less = and_le_l x y in mod-eq_of_lt (omega arith)

pub wires-evaluate : WiresEvaluate
wires-evaluate n w offset gate u v m entries x y a b some small wide garbled left right odd zeros shares =
    let P : ℕ → Type 0 = λ k. IsActive n offset m k (and_active n w entries gate a b) in record {
      zeros = zeros;
      active = subst P (and-low x y w small)
          (and-is n w offset gate u v m entries x y a b garbled left.active right.active some odd zeros wide);
      shares = shares;
    }
