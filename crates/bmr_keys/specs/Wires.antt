-- When the parties' parts of a garbled wire recombine, by the party's number.
use Rattle.std.specs.Prelude.{◌≡◌, ℕ, ◌<◌, ◌≤◌, true, false, length, ◌*◌}
use Rattle.share_types.specs.Sums.{xor_to}
use Rattle.share_types.specs.Keys.{◌⊕◌, bit, times, key_of, AreKeyBit}
use Rattle.share_types.specs.declared.records.KeyBit.{KeyBit}
use Rattle.share_types.specs.declared.keys.Online.{Online}
use Rattle.bmr_keys.specs.Mask.{Mask}

-- the mask: the XOR of all shares
abbrev pub whole : ℕ → (ℕ → Mask) → ℕ
whole n u = xor_to n (λ p. (u p).mask)

-- all zero keys have least bit 0
abbrev pub AreZeroKeys : ℕ → (ℕ → Mask) → Type 0
AreZeroKeys n u = (p i : ℕ) → p < n → bit ((u p).keys i) 0 ≡ false

-- the shares XOR to each bit of a vector times each owner's offset
abbrev pub AreTimes : ℕ → (ℕ → ℕ) → (ℕ → ℕ → ℕ → ℕ) → ℕ → Type 0
AreTimes n offset shares x =
    (i j : ℕ) → j < n → xor_to n (λ p. shares p i j) ≡ times (bit x i) (offset j)

-- the parties' parts are parts of one mask, which is x
pub record IsMask (n : ℕ) (offset : ℕ → ℕ) (u : ℕ → Mask) (x : ℕ) : Type 0 where
  pub bits : whole n u ≡ x
  pub zeros : AreZeroKeys n u
  pub shares : AreTimes n offset (λ p. (u p).shares) x

-- the mask has no bit and no zero key from a width on
pub record HasWidth (n width : ℕ) (u : ℕ → Mask) : Type 0 where
  pub bits : (i : ℕ) → width ≤ i → bit (whole n u) i ≡ false
  pub keys : (i p : ℕ) → width ≤ i → p < n → (u p).keys i ≡ 0

-- what all parties see of a wire: the masked bits, and of each bit each owner's active key
pub record Active : Type 0 where
  pub masked : ℕ
  pub keys : ℕ → ℕ → ℕ

-- with the parties' parts of its mask a wire recombines to x: the masked bits are x XOR the mask, and the active key
-- of each owner is its zero key, XOR its offset where the masked bit is 1
pub record IsActive (n : ℕ) (offset : ℕ → ℕ) (u : ℕ → Mask) (x : ℕ) (a : Active) : Type 0 where
  pub masked : a.masked ≡ x ⊕ whole n u
  pub keys : (i j : ℕ) → j < n → a.keys i j ≡ (u j).keys i ⊕ times (bit a.masked i) (offset j)

-- the online value in memory has a width, n owners and these masked bits and keys
pub record IsOnline (n w : ℕ) (a : Active) (online : Online) : Type 0 where
  pub width : online.masked.width ≡ w
  pub masked : online.masked.word ≡ a.masked
  pub key_count : length online.keys ≡ w * n
  pub keys : (i j : ℕ) → i < w → j < n → key_of n online.keys i j ≡ a.keys i j

-- all offsets are odd
abbrev pub AreOdd : ℕ → (ℕ → ℕ) → Type 0
AreOdd n offset = (j : ℕ) → j < n → bit (offset j) 0 ≡ true

-- the parties' parts of a run of key records are honest: party p has `records p k` of the record number k
abbrev pub AreKeyBits : ℕ → ℕ → (ℕ → ℕ) → (ℕ → ℕ → KeyBit) → Type 0
AreKeyBits n width offset records = (k : ℕ) → k < width → AreKeyBit n offset (λ p. records p k)
