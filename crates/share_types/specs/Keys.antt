-- Keys as numbers under XOR, lists of keys, and the records of shared bits and of key bits by the party's number.
use Rattle.std.specs.Prelude.{◌≡◌, ℕ, ◌+◌, ◌*◌, ◌%◌, ◌^◌, ◌<◌, ◌==◌, if◌then◌else◌, zero, suc, Bool, false, List, get_or, bit_xor}
use Rattle.std.specs.Int.{bit_at}
use Rattle.share_types.specs.Bits.{once, differ}
use Rattle.share_types.specs.Sums.{sum_to, xor_to}
use Rattle.share_types.specs.declared.keys.Key.{Key}
use Rattle.share_types.specs.declared.records.SharedBit.{SharedBit}
use Rattle.share_types.specs.declared.records.KeyBit.{KeyBit}

infixl 65 ◌⊕◌
-- the XOR of two numbers
abbrev pub ◌⊕◌ : ℕ → ℕ → ℕ
x ⊕ y = bit_xor x y

-- whether bit i of a number is set
abbrev pub bit : ℕ → ℕ → Bool
bit x i = bit_at x i == 1

-- a bit times a key: the key where the bit is 1, and else 0
abbrev pub times : Bool → ℕ → ℕ
times b key = if b then key else 0

-- the key at a place of a list, and 0 where there is none
abbrev pub key_at : List Key → ℕ → ℕ
key_at keys place = (get_or keys place (record { 0 = 0 })).0

-- the key of a bit and an owner in a list by bit and owner, with n owners
abbrev pub key_of : ℕ → List Key → ℕ → ℕ → ℕ
key_of n keys bit owner = key_at keys (bit * n + owner)

-- the XOR of a bit of each of the first n parties, by the party's number
abbrev pub parity_to : ℕ → (ℕ → Bool) → Bool
parity_to zero f = false
parity_to (suc n) f = differ (parity_to n f) (f n)

-- all parties' parts of one shared bit: the sum of the words is the XOR of the bits
abbrev pub AreSharedBit : ℕ → (ℕ → SharedBit) → Type 0
AreSharedBit n part = sum_to n (λ p. (part p).word) % 2 ^ 64 ≡ once (parity_to n (λ p. (part p).bit))

-- all parties' parts of one key bit: for each owner the XOR of its keys is the XOR of the bits times the owner's
-- offset
abbrev pub AreKeyBit : ℕ → (ℕ → ℕ) → (ℕ → KeyBit) → Type 0
AreKeyBit n offset part =
    (owner : ℕ) → owner < n →
    xor_to n (λ p. key_at (part p).times owner) ≡ times (parity_to n (λ p. (part p).bit)) (offset owner)
