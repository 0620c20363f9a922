-- When the parts of all parties belong together.
use Rattle.std.specs.Prelude.{◌≡◌, ℕ, ◌<◌, ◌*◌, List, length, map, All, slice_index, get_or, bit_and}
use Rattle.std.specs.Int.{bit_at}
use Rattle.share_types.specs.Sums.{total, xor_total, Recombines, RecombinesByXor}
use Rattle.share_types.specs.Keys.{AreSharedBit, AreKeyBit}
use Rattle.share_types.specs.declared.needs.Needs.{Needs}
use Rattle.share_types.specs.declared.records.MultTriple.{MultTriple}
use Rattle.share_types.specs.declared.records.SharedBit.{SharedBit}
use Rattle.share_types.specs.declared.records.KeyBit.{KeyBit}
use Rattle.dealer_files.specs.Part.{Part, counts_of}

-- all parties' parts of one triple

-- the sum of the c is the product of the sums of the a and of the b, modulo 2^64
abbrev pub IsMultTriple : List MultTriple → Type 0
IsMultTriple ts = Recombines (map (λ t. t.c) ts) (total (map (λ t. t.a) ts) * total (map (λ t. t.b) ts))

-- the XOR of the bits 2 is the AND of the XORs of the bits 0 and of the bits 1
abbrev pub IsBitTriple : List ℕ → Type 0
IsBitTriple rs =
    RecombinesByXor (map (λ r. bit_at r 2) rs)
    (bit_and (xor_total (map (λ r. bit_at r 0) rs)) (xor_total (map (λ r. bit_at r 1) rs)))

-- The parts of all parties, in their order, are honest together: they are of one deal, of equal counts and odd
-- offsets, and the records at each place meet their equation.
pub record HonestTogether (parts : List Part) (parties id : ℕ) (counts : Needs) : Type 0 where
  pub count : length parts ≡ parties
  pub order : (party : ℕ) (d : Part) → party < parties → (get_or parts party d).party ≡ party
  pub one_deal : All (λ p. (p.parties ≡ parties) × (p.id ≡ id) × (counts_of p ≡ counts)) parts
  pub odd : All (λ p. bit_at p.offset 0 ≡ 1) parts
  pub mult : (at : ℕ) (d : MultTriple) → at < counts.mult → IsMultTriple (map (λ p. get_or p.mult at d) parts)
  pub bit : (at : ℕ) → at < counts.bit → IsBitTriple (map (λ p. slice_index p.bits at) parts)
  pub shared : (at : ℕ) (d : Part) (s : SharedBit) → at < counts.shared →
      AreSharedBit parties (λ party. get_or (get_or parts party d).shared at s)
  pub key : (at : ℕ) (d : Part) (k : KeyBit) → at < counts.key →
      AreKeyBit parties (λ party. (get_or parts party d).offset) (λ party. get_or (get_or parts party d).keys at k)
