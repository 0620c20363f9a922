-- What one party makes of its share of a vector when the sharing changes.
use Rattle.std.specs.Prelude.{ℕ, ◌+◌, ◌*◌, ◌%◌, ◌^◌, Bool, false, List, get_or}
use Rattle.share_types.specs.Bits.{once, number}
use Rattle.share_types.specs.Sums.{sum_to, each, part_of_public, word_difference, word_product}
use Rattle.share_types.specs.Keys.{◌⊕◌, bit}
use Rattle.share_types.specs.declared.records.SharedBit.{SharedBit}

-- from BMR keys to an XOR: the share of the mask, at party 0 XOR the masked bits
abbrev pub opened_share : ℕ → ℕ → ℕ → ℕ
opened_share me mask masked = mask ⊕ part_of_public me masked

-- a record that stands where there is none
abbrev pub no_shared_bit : SharedBit
no_shared_bit = record { bit = false; word = 0 }

-- the record at a place
abbrev pub shared_bit_at : List SharedBit → ℕ → SharedBit
shared_bit_at stock place = get_or stock place no_shared_bit

-- from an XOR to a sum: what a party opens is its share XOR its parts of the shared bits
abbrev pub covered_share : ℕ → ℕ → (ℕ → SharedBit) → ℕ
covered_share width x stock = x ⊕ number (each width (λ i. (stock i).bit))

-- a share r of a shared bit by sum, turned by an opened bit v: r - 2 v r, modulo 2^64
abbrev pub turned_word : Bool → ℕ → ℕ
turned_word v r = word_difference r (word_product (2 * once v) r)

-- the share by sum: each shared bit, turned by the opened bit, at its place, and at party 0 the opened vector more
abbrev pub closed_word : ℕ → ℕ → (ℕ → SharedBit) → ℕ → ℕ
closed_word me width stock v =
    (sum_to width (λ i. 2 ^ i * turned_word (bit v i) (stock i).word) + part_of_public me v) % 2 ^ 64
