-- What the parties' parts of masks recombine to.
use Rattle.std.proofs.Common.{◌≡◌, ℕ, zero, suc, ◌+◌, ◌-◌, ◌%◌, ◌^◌, ◌<◌, ◌≤◌, Bool, false, refl, sym, ap, ap₂, ◌∙◌, arith, inl, inr}
use Rattle.std.specs.Prelude.{◌==◌}
use Rattle.std.proofs.lemmas.Bool.{lt-ltb, le-ltb, cases_lt}
use Rattle.std.proofs.lemmas.Nat.Bits.{bit_at_lowest}
use Rattle.std.proofs.Math.Nat.{zero-mod}
use Rattle.mot_base.specs.Tape.{key_of_tape}
use Rattle.share_types.specs.Bits.{number, differ}
use Rattle.share_types.specs.Sums.{xor_to, part_of_public, each}
use Rattle.share_types.specs.Keys.{◌⊕◌, bit, times, key_at, parity_to}
use Rattle.share_types.specs.declared.records.KeyBit.{KeyBit}
use Rattle.share_types.proofs.Parties.{xor_to_same}
use Rattle.bmr_keys.specs.Hiding.{even_key, zero_key_of, zero_key_place}
use Rattle.bmr_keys.specs.Mask.{Mask, cut, behind, slice, join, own_times, fresh_mask}
use Rattle.bmr_keys.specs.Wires.{whole, IsMask, HasWidth, AreKeyBits}
use Rattle.bmr_keys.specs.Laws.{FreshRecombine, ZeroKeysAreEven, ConstantRecombines, XorRecombines, FlipRecombines, SliceRecombines, JoinRecombines}
use Rattle.bmr_keys.proofs.Labels.{bit-xor, bit-zero, same-bits, bit-slice, bit-slice_above, bit-join, bit-join_above, join-xor, bit-number, bit-number_above, times-differ, cut-inside, cut-outside}
use Rattle.bmr_keys.proofs.Sums.{xor-both, xor-nothing, xor-public, xor-own, xor-slice, bit-xor_to, parity-same, parity-none}

-- the product with an XOR, for one owner
pub times-sum : (x y i key : ℕ) → times (bit x i) key ⊕ times (bit y i) key ≡ times (bit (x ⊕ y) i) key
times-sum x y i key = sym (times-differ (bit x i) (bit y i) key) ∙ ap (λ b. times b key) (sym (bit-xor x y i))

pub constant-recombines : ConstantRecombines
constant-recombines n offset c some = record {
  bits = xor-public n c some;
  zeros = λ p i small. bit-zero 0;
  shares = λ i j small. xor-own n offset c i j small;
}

pub xor-recombines : XorRecombines
xor-recombines n offset u v x y a b = record {
  bits = xor-both n (λ p. (u p).mask) (λ p. (v p).mask) ∙ ap₂ (λ (s t : ℕ). s ⊕ t) a.bits b.bits;
  zeros = λ p i small. bit-xor ((u p).keys i) ((v p).keys i) 0 ∙ ap₂ differ (a.zeros p i small) (b.zeros p i small);
  shares = λ i j small.
      xor-both n (λ p. (u p).shares i j) (λ p. (v p).shares i j)
      ∙ (ap₂ (λ (s t : ℕ). s ⊕ t) (a.shares i j small) (b.shares i j small) ∙ times-sum x y i (offset j));
}

pub flip-recombines : FlipRecombines
flip-recombines n offset u x c some a = record {
  bits = xor-both n (λ p. (u p).mask) (λ p. part_of_public p c) ∙ ap₂ (λ (s t : ℕ). s ⊕ t) a.bits (xor-public n c some);
  zeros = a.zeros;
  shares = λ i j small.
      xor-both n (λ p. (u p).shares i j) (λ p. own_times p (offset p) c i j)
      ∙ (ap₂ (λ (s t : ℕ). s ⊕ t) (a.shares i j small) (xor-own n offset c i j small) ∙ times-sum x c i (offset j));
}

-- what is cut before a bit is 0 for all parties
cut-nothing : (n w i : ℕ) (f : ℕ → ℕ → ℕ) → w ≤ i → xor_to n (λ p. cut w (f p) i) ≡ 0
cut-nothing n w i f h = xor_to_same n (λ p. cut w (f p) i) (λ p. 0) (λ p small. cut-outside w (f p) i h) ∙ xor-nothing n

cut-all : (n w i : ℕ) (f : ℕ → ℕ → ℕ) → i < w → xor_to n (λ p. cut w (f p) i) ≡ xor_to n (λ p. f p i)
cut-all n w i f h = xor_to_same n (λ p. cut w (f p) i) (λ p. f p i) (λ p small. cut-inside w (f p) i h)

cut-even : (w i : ℕ) (f : ℕ → ℕ) → ((k : ℕ) → bit (f k) 0 ≡ false) → bit (cut w f i) 0 ≡ false
cut-even w i f even = elim (cases_lt i w) as (λ _. bit (cut w f i) 0 ≡ false) [
  | inl small ↦ ap (λ k. bit k 0) (cut-inside w f i small) ∙ even i
  | inr large ↦ ap (λ k. bit k 0) (cut-outside w f i large) ∙ bit-zero 0
]

pub slice-recombines : SliceRecombines
slice-recombines n offset u x at w a = record {
  bits = xor-slice n at w (λ p. (u p).mask) ∙ ap (slice at w) a.bits;
  zeros = λ p i small. cut-even w i (λ k. (u p).keys (at + k)) (λ k. a.zeros p (at + k) small);
  shares = λ i j small. elim (cases_lt i w) as (λ _. xor_to n (λ p. cut w (λ k. (u p).shares (at + k) j) i) ≡ times (bit (slice at w x) i) (offset j)) [
    | inl inside ↦
        cut-all n w i (λ p k. (u p).shares (at + k) j) inside
        ∙ (a.shares (at + i) j small ∙ ap (λ b. times b (offset j)) (sym (bit-slice at w x i inside)))
    | inr outside ↦
        cut-nothing n w i (λ p k. (u p).shares (at + k) j) outside
        ∙ ap (λ b. times b (offset j)) (sym (bit-slice_above at w x i outside))
  ];
}

pub behind-inside : (w : ℕ) (f g : ℕ → ℕ) (i : ℕ) → i < w → behind w f g i ≡ f i
behind-inside w f g i h = rw (lt-ltb i w h) refl

pub behind-outside : (w : ℕ) (f g : ℕ → ℕ) (i : ℕ) → w ≤ i → behind w f g i ≡ g (i - w)
behind-outside w f g i h = rw (le-ltb i w h) refl

join-nothing : (w : ℕ) → join w 0 0 ≡ 0
join-nothing w = let none = zero-mod (2 ^ w) in omega arith

pub xor-join : (n w : ℕ) (f g : ℕ → ℕ) → xor_to n (λ p. join w (f p) (g p)) ≡ join w (xor_to n f) (xor_to n g)
xor-join zero w f g = sym (join-nothing w)
xor-join (suc n) w f g =
    ap (λ m. m ⊕ join w (f n) (g n)) (xor-join n w f g) ∙ sym (join-xor w (xor_to n f) (f n) (xor_to n g) (g n))

pub join-recombines : JoinRecombines
join-recombines n offset u v x y w a b = record {
  bits = xor-join n w (λ p. (u p).mask) (λ p. (v p).mask) ∙ ap₂ (join w) a.bits b.bits;
  zeros = λ p i small. elim (cases_lt i w) as (λ _. bit (behind w (u p).keys (v p).keys i) 0 ≡ false) [
    | inl inside ↦ ap (λ k. bit k 0) (behind-inside w (u p).keys (v p).keys i inside) ∙ a.zeros p i small
    | inr outside ↦ ap (λ k. bit k 0) (behind-outside w (u p).keys (v p).keys i outside) ∙ b.zeros p (i - w) small
  ];
  shares = λ i j small. elim (cases_lt i w) as (λ _. xor_to n (λ p. behind w (λ k. (u p).shares k j) (λ k. (v p).shares k j) i) ≡ times (bit (join w x y) i) (offset j)) [
    | inl inside ↦
        xor_to_same n (λ p. behind w (λ k. (u p).shares k j) (λ k. (v p).shares k j) i) (λ p. (u p).shares i j)
        (λ p less. behind-inside w (λ k. (u p).shares k j) (λ k. (v p).shares k j) i inside)
        ∙ (a.shares i j small ∙ ap (λ b. times b (offset j)) (sym (bit-join w x y i inside)))
    | inr outside ↦
        xor_to_same n (λ p. behind w (λ k. (u p).shares k j) (λ k. (v p).shares k j) i) (λ p. (v p).shares (i - w) j)
        (λ p less. behind-outside w (λ k. (u p).shares k j) (λ k. (v p).shares k j) i outside)
        ∙ (b.shares (i - w) j small ∙ ap (λ b. times b (offset j)) (sym (bit-join_above w x y i outside)))
  ];
}

-- the numbers of the parties' bits XOR to the number of the XORs of the bits
pub xor-numbers : (n w : ℕ) (f : ℕ → ℕ → Bool) →
    xor_to n (λ p. number (each w (f p))) ≡ number (each w (λ i. parity_to n (λ p. f p i)))
xor-numbers n w f = same-bits _ _ (λ i. bit-xor_to n (λ p. number (each w (f p))) i ∙ elim (cases_lt i w) as
    (λ _. parity_to n (λ p. bit (number (each w (f p))) i) ≡ bit (number (each w (λ k. parity_to n (λ p. f p k)))) i) [
      | inl inside ↦
          parity-same n (λ p. bit (number (each w (f p))) i) (λ p. f p i) (λ p small. bit-number w (f p) i inside)
          ∙ sym (bit-number w (λ k. parity_to n (λ p. f p k)) i inside)
      | inr outside ↦
          parity-same n (λ p. bit (number (each w (f p))) i) (λ p. false) (λ p small. bit-number_above w (f p) i outside)
          ∙ (parity-none n ∙ sym (bit-number_above w (λ k. parity_to n (λ p. f p k)) i outside))
    ])

module _ (n w : ℕ) (offset : ℕ → ℕ) (records : ℕ → ℕ → KeyBit) (zero_keys : ℕ → ℕ → ℕ)
    (honest : AreKeyBits n w offset records) (even : (p k : ℕ) → p < n → bit (zero_keys p k) 0 ≡ false) where
  abbrev xors : ℕ → Bool
  xors k = parity_to n (λ p. (records p k).bit)

  abbrev fresh : ℕ → Mask
  fresh p = fresh_mask w (records p) (zero_keys p)

  fresh_bits : whole n fresh ≡ number (each w xors)
  fresh_bits = xor-numbers n w (λ p i. (records p i).bit)

  fresh_shares : (i j : ℕ) → j < n → xor_to n (λ p. cut w (λ k. key_at (records p k).times j) i) ≡ times (bit (number (each w xors)) i) (offset j)
  fresh_shares i j small = elim (cases_lt i w) as (λ _. xor_to n (λ p. cut w (λ k. key_at (records p k).times j) i) ≡ times (bit (number (each w xors)) i) (offset j)) [
    | inl inside ↦
        cut-all n w i (λ p k. key_at (records p k).times j) inside
        ∙ (honest i inside j small ∙ ap (λ b. times b (offset j)) (sym (bit-number w xors i inside)))
    | inr outside ↦
        cut-nothing n w i (λ p k. key_at (records p k).times j) outside
        ∙ ap (λ b. times b (offset j)) (sym (bit-number_above w xors i outside))
  ]

  pub fresh-mask : IsMask n offset fresh (number (each w xors))
  fresh-mask = record {
    bits = fresh_bits;
    zeros = λ p i small. cut-even w i (zero_keys p) (λ k. even p k small);
    shares = fresh_shares;
  }

  pub fresh-width : HasWidth n w fresh
  fresh-width = record {
    bits = λ i outside. ap (λ m. bit m i) fresh_bits ∙ bit-number_above w xors i outside;
    keys = λ i p outside small. cut-outside w (zero_keys p) i outside;
  }

pub fresh-recombine : FreshRecombine
fresh-recombine n w offset records zero_keys honest even =
    (fresh-mask n w offset records zero_keys honest even, fresh-width n w offset records zero_keys honest even)

pub even-is_even : (key : ℕ) → bit (even_key key) 0 ≡ false
even-is_even key =
    let none : even_key key % 2 ≡ 0 = omega arith in
    ap (λ d. d == 1) (bit_at_lowest (even_key key) ∙ none)

pub zero_keys-are_even : ZeroKeysAreEven
unfolding zero_key_of
zero_keys-are_even seed record_number = even-is_even (key_of_tape seed (zero_key_place record_number))
