-- One party's shares of the product of two masks: the AND of their bits, and the AND times each owner's offset.
use Rattle.std.specs.Prelude.{◌≡◌, ℕ, ◌*◌, ◌<◌, false, [], List, length, get_or, bit_and}
use Rattle.share_types.specs.Sums.{xor_to, part_of_public}
use Rattle.share_types.specs.Keys.{◌⊕◌, key_at, key_of}
use Rattle.share_types.specs.declared.keys.Key.{Key}
use Rattle.share_types.specs.declared.records.BitTriple.{BitTriple}
use Rattle.share_types.specs.declared.records.KeyBit.{KeyBit}
use Rattle.bmr_keys.specs.Mask.{cut, own_times}

-- what a party opens of each mask: its share XOR its part of the triples (Beaver 1991)
abbrev pub opened_left : ℕ → BitTriple → ℕ
opened_left mask t = mask ⊕ t.a.word

abbrev pub opened_right : ℕ → BitTriple → ℕ
opened_right mask t = mask ⊕ t.b.word

-- a party's share of the AND of the masks, where d and e are the XOR of what all parties opened
abbrev pub product_share : ℕ → BitTriple → ℕ → ℕ → ℕ
product_share me t d e =
    ((t.c.word ⊕ bit_and d t.b.word) ⊕ bit_and e t.a.word) ⊕ part_of_public me (bit_and d e)

-- all parties' parts of bit triples: the XOR of the c is the AND of the XORs of the a and of the b
abbrev pub AreBitTriples : ℕ → (ℕ → BitTriple) → Type 0
AreBitTriples n t =
    xor_to n (λ p. (t p).c.word) ≡ bit_and (xor_to n (λ p. (t p).a.word)) (xor_to n (λ p. (t p).b.word))

-- a record that stands where there is none
abbrev pub no_key_bit : KeyBit
no_key_bit = record { bit = false; times = [] }

-- the record at a place
abbrev pub key_bit_at : List KeyBit → ℕ → KeyBit
key_bit_at stock place = get_or stock place no_key_bit

-- how many owners the first record has keys for
abbrev pub owners_in : List KeyBit → ℕ
owners_in stock = length (key_bit_at stock 0).times

-- a party's share of the product times an owner's offset, where f is the XOR of the product and the records' bits:
-- that of the record's bit, and at the own place the offset where f is 1
abbrev pub product_times : ℕ → ℕ → ℕ → (ℕ → KeyBit) → ℕ → ℕ → ℕ → ℕ
product_times width me offset stock f i j = cut width (λ k. key_at (stock k).times j) i ⊕ own_times me offset f i j

-- the keys in memory are these, by bit and owner
pub record AreShares (n w : ℕ) (shares : ℕ → ℕ → ℕ) (keys : List Key) : Type 0 where
  pub count : length keys ≡ w * n
  pub each : (i j : ℕ) → i < w → j < n → key_of n keys i j ≡ shares i j
