-- Honest parts give what garbled tables and conversions suppose of them.
use Rattle.std.proofs.Common.{◌≡◌, ℕ, zero, suc, ◌+◌, ◌%◌, ◌^◌, ◌<◌, Bool, get_or, take, drop, List, refl, sym, ap, ap₂, ◌∙◌, arith}
use Rattle.std.specs.Prelude.{◌==◌}
use Rattle.std.proofs.lemmas.List.{get_or-take, get_or-drop}
use Rattle.share_types.specs.Bits.{once, differ}
use Rattle.share_types.specs.Keys.{times, key_at, parity_to, AreSharedBit, AreKeyBit}
use Rattle.share_types.proofs.Parties.{sum_to_same, xor_to_same}
use Rattle.share_types.specs.declared.records.SharedBit.{SharedBit}
use Rattle.share_types.specs.declared.records.KeyBit.{KeyBit}
use Rattle.dealer_files.specs.Garbling.{offset_of, shared_from, keys_from, OffsetsAreOdd, KeyBitsAreHonest, SharedBitsAreHonest}

-- parties that have the same bit at each number below theirs
parity_to_same : (n : ℕ) (f g : ℕ → Bool) → ((party : ℕ) → party < n → f party ≡ g party) → parity_to n f ≡ parity_to n g
parity_to_same zero f g same = refl
parity_to_same (suc n) f g same =
    ap₂ differ (parity_to_same n f g (λ party h. same party (omega arith))) (same n (omega arith))

-- the equation of a shared bit rests on what the parties below their number have
pub shared_bit_same : (n : ℕ) (f g : ℕ → SharedBit) → ((party : ℕ) → party < n → f party ≡ g party) →
    AreSharedBit n f → AreSharedBit n g
shared_bit_same n f g same honest =
    ap (λ x. x % 2 ^ 64) (sum_to_same n (λ p. (g p).word) (λ p. (f p).word) (λ p h. ap (λ s. s.word) (sym (same p h))))
    ∙ (honest ∙ ap once (parity_to_same n (λ p. (f p).bit) (λ p. (g p).bit) (λ p h. ap (λ s. s.bit) (same p h))))

-- and so does that of a key bit
pub key_bit_same : (n : ℕ) (offset other : ℕ → ℕ) (f g : ℕ → KeyBit) →
    ((party : ℕ) → party < n → offset party ≡ other party) → ((party : ℕ) → party < n → f party ≡ g party) →
    AreKeyBit n offset f → AreKeyBit n other g
key_bit_same n offset other f g offsets same honest owner h =
    xor_to_same n (λ p. key_at (g p).times owner) (λ p. key_at (f p).times owner)
    (λ p i. ap (λ k. key_at k.times owner) (sym (same p i)))
    ∙ (honest owner h
    ∙ ap₂ times (parity_to_same n (λ p. (f p).bit) (λ p. (g p).bit) (λ p i. ap (λ k. k.bit) (same p i))) (offsets owner h))

-- a record of some that stand together
stands : {X : Type 0} (xs : List X) (first width at : ℕ) (d : X) → at < width →
    get_or xs (first + at) d ≡ get_or (take width (drop first xs)) at d
stands xs first width at d h =
    sym (get_or-take width (drop first xs) at d h ∙ get_or-drop first xs at d)

pub offsets_are_odd : OffsetsAreOdd
offsets_are_odd parts parties id counts d honest party h =
    let many = honest.count in
    ap (λ (b : ℕ). b == 1) (honest.odd party d (omega arith))

pub key_bits_are_honest : KeyBitsAreHonest
key_bits_are_honest parts parties id counts d k first width honest enough at h =
    key_bit_same parties (offset_of parts d) (offset_of parts d)
    (λ party. get_or (get_or parts party d).keys (first + at) k) (λ party. get_or (keys_from parts d first width party) at k)
    (λ party i. refl)
    (λ party i. stands (get_or parts party d).keys first width at k h)
    (honest.key (first + at) d k (omega arith))

pub shared_bits_are_honest : SharedBitsAreHonest
shared_bits_are_honest parts parties id counts d s first width honest enough at h =
    shared_bit_same parties
    (λ party. get_or (get_or parts party d).shared (first + at) s) (λ party. get_or (shared_from parts d first width party) at s)
    (λ party i. stands (get_or parts party d).shared first width at s h)
    (honest.shared (first + at) d s (omega arith))
