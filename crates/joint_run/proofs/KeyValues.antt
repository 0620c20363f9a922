-- Keys in lists, by place and by bit and owner, and in the bytes of messages.
use Rattle.std.proofs.Common.{ℕ, zero, suc, ◌≡◌, ◌+◌, ◌*◌, ◌/◌, ◌%◌, ◌^◌, ◌<◌, ◌≤◌, false, List, [], ◌∷◌, ◌++◌, refl, sym, ap, ap₂, ◌∙◌, arith, inl, inr, length, subst}
use Rattle.std.proofs.Math.Nat.{mul-le-mul_right, mod-lt, div-lt_iff_lt-mul}
use Rattle.std.proofs.lemmas.Nat.{div-mul-add, mod-mul-add, pow_pos}
use Rattle.std.proofs.lemmas.Bool.{cases_lt}
use Rattle.share_types.specs.Sums.{xor_to}
use Rattle.share_types.specs.declared.keys.Key.{Key}
use Rattle.share_types.specs.Keys.{◌⊕◌, bit, times, key_at, key_of}
use Rattle.share_types.proofs.Parties.{xor_to_same, length-each}
use Rattle.bmr_keys.specs.Mask.{Mask}
use Rattle.bmr_keys.specs.Wires.{Active, whole, IsMask, IsActive, HasWidth}
use Rattle.bmr_keys.specs.Payload.{key_bytes, key_in}
use Rattle.bmr_keys.proofs.KeyLists.{key_at-each, key_at-past, place-inside}
use Rattle.bmr_keys.proofs.Labels.{bit-above, bit-zero, xor_zero_r}
use Rattle.bmr_keys.proofs.Payloads.{keys-back}
use Rattle.bmr_keys.proofs.Sums.{xor-nothing}
use Rattle.joint_run.specs.Party.{keys_of, owner_keys}

keys-length : (count : ℕ) (f : ℕ → ℕ) → length (keys_of count f) ≡ count
keys-length count f = length-each {X = Key} count (λ k. record { 0 = f k })

pub key-there : (count : ℕ) (f : ℕ → ℕ) (i : ℕ) → i < count → key_at (keys_of count f) i ≡ f i
key-there count f i h = key_at-each count f (keys_of count f) i refl h

pub key-past : (count : ℕ) (f : ℕ → ℕ) (i : ℕ) → count ≤ i → key_at (keys_of count f) i ≡ 0
key-past count f i h = let size = keys-length count f in key_at-past (keys_of count f) i (omega (arith, size, h))

-- what holds of each key that is there and of 0 holds of the key at any place
pub key-any : (P : ℕ → Type 0) (count : ℕ) (f : ℕ → ℕ) (i : ℕ) → P 0 → ((k : ℕ) → k < count → P (f k)) → P (key_at (keys_of count f) i)
key-any P count f i none each = elim (cases_lt i count) as (λ _. P (key_at (keys_of count f) i)) [
  | inl small ↦ subst P (sym (key-there count f i small)) (each i small)
  | inr large ↦ subst P (sym (key-past count f i large)) none
]

-- ---- by bit and owner

pub owner-there : (n w : ℕ) (f : ℕ → ℕ → ℕ) (i j : ℕ) → i < w → j < n → key_of n (owner_keys n w f) i j ≡ f i j
owner-there n w f i j h small =
    key-there (w * n) (λ k. f (k / n) (k % n)) (i * n + j) (place-inside n w i j h small)
    ∙ ap₂ f (div-mul-add i n j small) (mod-mul-add i n j small)

pub owner-past : (n w : ℕ) (f : ℕ → ℕ → ℕ) (i j : ℕ) → w ≤ i → key_of n (owner_keys n w f) i j ≡ 0
owner-past n w f i j h =
    let more = mul-le-mul_right n h in
    key-past (w * n) (λ k. f (k / n) (k % n)) (i * n + j) (omega (arith, more))

-- lists of what agrees at each place are equal
pub keys-same : (count : ℕ) (f g : ℕ → ℕ) → ((k : ℕ) → k < count → f k ≡ g k) → keys_of count f ≡ keys_of count g
keys-same zero f g same = refl
keys-same (suc count) f g same =
    ap₂ (λ (ks : List Key) (k : ℕ). ks ++ record { 0 = k } ∷ []) (keys-same count f g (λ k h. same k (omega (arith, h)))) (same count (omega arith))

pub owner-same : (n w : ℕ) (f g : ℕ → ℕ → ℕ) → 0 < n → ((i j : ℕ) → i < w → j < n → f i j ≡ g i j) → owner_keys n w f ≡ owner_keys n w g
owner-same n w f g some same =
    keys-same (w * n) (λ k. f (k / n) (k % n)) (λ k. g (k / n) (k % n))
    (λ k h. same (k / n) (k % n) ((div-lt_iff_lt-mul some).1 h) (mod-lt k some))

-- ---- in bytes

pub key-back : (count : ℕ) (f : ℕ → ℕ) (i : ℕ) → ((k : ℕ) → k < count → f k < 2 ^ 128) → i < count →
    key_in (key_bytes (keys_of count f)) i ≡ f i
key-back count f i low h =
    let size = keys-length count f in
    keys-back (keys_of count f) i (λ k. key-any (λ x. x < 2 ^ 128) count f k (pow_pos 128) low) (omega (arith, size, h))
    ∙ key-there count f i h

-- ---- parts of masks, and what is seen of wires, as values

-- a party's part of a mask of w bits among n parties, as it stands in lists
abbrev pub listed : ℕ → ℕ → Mask → Mask
listed n w u = record { mask = u.mask; keys = key_at (keys_of w u.keys); shares = key_of n (owner_keys n w u.shares) }

abbrev pub listed_active : ℕ → ℕ → Active → Active
listed_active n w a = record { masked = a.masked; keys = key_of n (owner_keys n w a.keys) }

pub listed-mask : (n w : ℕ) (offset : ℕ → ℕ) (u : ℕ → Mask) → IsMask n offset u (whole n u) → whole n u < 2 ^ w →
    IsMask n offset (λ p. listed n w (u p)) (whole n u)
listed-mask n w offset u is small = record {
  bits = refl;
  zeros = λ p i h. elim (cases_lt i w) as (λ _. bit (key_at (keys_of w (u p).keys) i) 0 ≡ false) [
    | inl inside ↦ ap (λ k. bit k 0) (key-there w (u p).keys i inside) ∙ is.zeros p i h
    | inr past ↦ ap (λ k. bit k 0) (key-past w (u p).keys i past) ∙ bit-zero 0
  ];
  shares = λ i j h. elim (cases_lt i w) as (λ _. xor_to n (λ p. key_of n (owner_keys n w (u p).shares) i j) ≡ times (bit (whole n u) i) (offset j)) [
    | inl inside ↦
        xor_to_same n (λ p. key_of n (owner_keys n w (u p).shares) i j) (λ p. (u p).shares i j) (λ p less. owner-there n w (u p).shares i j inside h)
        ∙ is.shares i j h
    | inr past ↦
        xor_to_same n (λ p. key_of n (owner_keys n w (u p).shares) i j) (λ p. 0) (λ p less. owner-past n w (u p).shares i j past)
        ∙ (xor-nothing n ∙ ap (λ b. times b (offset j)) (sym (bit-above (whole n u) w i small past)))
  ];
}

-- what is seen of a wire of w bits, with parts of a mask of which the zero keys of w bits are the same, and 0 behind them
pub seen-listed : (n w : ℕ) (offset : ℕ → ℕ) (u v : ℕ → Mask) (x : ℕ) (a : Active) → IsActive n offset u x a → a.masked < 2 ^ w →
    whole n v ≡ whole n u → ((i j : ℕ) → i < w → (v j).keys i ≡ (u j).keys i) → ((i j : ℕ) → w ≤ i → (v j).keys i ≡ 0) →
    IsActive n offset v x (listed_active n w a)
seen-listed n w offset u v x a is small same keys none = record {
  masked = is.masked ∙ ap (λ m. x ⊕ m) (sym same);
  keys = λ i j h. elim (cases_lt i w) as
      (λ _. key_of n (owner_keys n w a.keys) i j ≡ (v j).keys i ⊕ times (bit a.masked i) (offset j)) [
        | inl inside ↦
            owner-there n w a.keys i j inside h
            ∙ (is.keys i j h ∙ ap (λ k. k ⊕ times (bit a.masked i) (offset j)) (sym (keys i j inside)))
        | inr past ↦
            owner-past n w a.keys i j past
            ∙ sym (ap₂ (λ k b. k ⊕ times b (offset j)) (none i j past) (bit-above a.masked w i small past) ∙ xor_zero_r 0)
      ];
}

-- and where the parts of the mask are listed
pub listed-wire : (n w : ℕ) (offset : ℕ → ℕ) (u : ℕ → Mask) (x : ℕ) (a : Active) → IsActive n offset u x a → a.masked < 2 ^ w →
    IsActive n offset (λ p. listed n w (u p)) x (listed_active n w a)
listed-wire n w offset u x a is small =
    seen-listed n w offset u (λ p. listed n w (u p)) x a is small refl (λ i j h. key-there w (u j).keys i h) (λ i j h. key-past w (u j).keys i h)

pub listed-width : (n w : ℕ) (u : ℕ → Mask) → whole n u < 2 ^ w → HasWidth n w (λ p. listed n w (u p))
listed-width n w u small = record {
  bits = λ i past. bit-above (whole n u) w i small past;
  keys = λ i p past h. key-past w (u p).keys i past;
}
