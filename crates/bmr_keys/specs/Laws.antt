-- What the parties' parts of masks recombine to after each party has made one call, for any number of parties.
use Rattle.std.specs.Prelude.{◌≡◌, ℕ, ◌+◌, ◌<◌, ◌≤◌, false, List}
use Rattle.mot_base.specs.Limits.{most_parties, most_gates, session_count, dealt_records}
use Rattle.mot_base.specs.Tape.{share_place}
use Rattle.share_types.specs.Bits.{number}
use Rattle.share_types.specs.Sums.{each}
use Rattle.share_types.specs.Keys.{◌⊕◌, bit, parity_to}
use Rattle.share_types.specs.declared.records.KeyBit.{KeyBit}
use Rattle.bmr_keys.specs.Hiding.{zero_key_of, zero_key_place}
use Rattle.bmr_keys.specs.Mask.{Mask, slice, join, fresh_mask, constant_mask, xor_mask, flip_mask, slice_mask, join_mask}
use Rattle.bmr_keys.specs.Wires.{IsMask, HasWidth, AreKeyBits}

-- honest key records and even zero keys give parts of one mask, which is the XOR of the records' bits, and it has its
-- width
abbrev pub FreshRecombine : Type 0
FreshRecombine =
    (n width : ℕ) (offset : ℕ → ℕ) (records : ℕ → ℕ → KeyBit) (zero_keys : ℕ → ℕ → ℕ) →
    AreKeyBits n width offset records → ((p k : ℕ) → p < n → bit (zero_keys p k) 0 ≡ false) →
    IsMask n offset (λ p. fresh_mask width (records p) (zero_keys p)) (number (each width (λ k. parity_to n (λ p. (records p k).bit))))
    × HasWidth n width (λ p. fresh_mask width (records p) (zero_keys p))

-- the zero keys of a tape are even
abbrev pub ZeroKeysAreEven : Type 0
ZeroKeysAreEven = (seed : List ℕ) (record_number : ℕ) → bit (zero_key_of seed record_number) 0 ≡ false

abbrev pub ConstantRecombines : Type 0
ConstantRecombines =
    (n : ℕ) (offset : ℕ → ℕ) (c : ℕ) → 0 < n → IsMask n offset (λ p. constant_mask p (offset p) c) c

abbrev pub XorRecombines : Type 0
XorRecombines =
    (n : ℕ) (offset : ℕ → ℕ) (u v : ℕ → Mask) (x y : ℕ) → IsMask n offset u x → IsMask n offset v y →
    IsMask n offset (λ p. xor_mask (u p) (v p)) (x ⊕ y)

abbrev pub FlipRecombines : Type 0
FlipRecombines =
    (n : ℕ) (offset : ℕ → ℕ) (u : ℕ → Mask) (x c : ℕ) → 0 < n → IsMask n offset u x →
    IsMask n offset (λ p. flip_mask p (offset p) (u p) c) (x ⊕ c)

abbrev pub SliceRecombines : Type 0
SliceRecombines =
    (n : ℕ) (offset : ℕ → ℕ) (u : ℕ → Mask) (x at width : ℕ) → IsMask n offset u x →
    IsMask n offset (λ p. slice_mask at width (u p)) (slice at width x)

abbrev pub JoinRecombines : Type 0
JoinRecombines =
    (n : ℕ) (offset : ℕ → ℕ) (u v : ℕ → Mask) (x y width : ℕ) → IsMask n offset u x → IsMask n offset v y →
    IsMask n offset (λ p. join_mask width (u p) (v p)) (join width x y)

-- what stands on a tape: the zero key of a key record, or the share word of a session and a gate for a party
pub data Use : Type 0 where
  ZeroKey : (record_number : ℕ) → Use
  ShareWord : (session gate to : ℕ) → Use

-- uses within the limits
abbrev pub IsUse : Use → Type 0
IsUse (ZeroKey record_number) = record_number < dealt_records
IsUse (ShareWord session gate to) = (session < session_count) × (gate < most_gates) × (to < most_parties)

-- a use reads the word at a place
abbrev pub Reads : Use → ℕ → Type 0
Reads (ZeroKey record_number) place = (zero_key_place record_number ≤ place) × (place < zero_key_place record_number + 4)
Reads (ShareWord session gate to) place = (share_place session gate to ≤ place) × (place < share_place session gate to + 2)

-- two uses that read the word at one place are one
abbrev pub UsesAreApart : Type 0
UsesAreApart = (a b : Use) (place : ℕ) → IsUse a → IsUse b → Reads a place → Reads b place → a ≡ b
