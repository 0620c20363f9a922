-- What the laws of garbled tables, of their evaluation and of conversions suppose of offsets and of records, by the
-- party's number: honest parts give it.
use Rattle.std.specs.Prelude.{◌≡◌, ℕ, ◌+◌, ◌<◌, ◌≤◌, true, List, take, drop, get_or}
use Rattle.share_types.specs.Keys.{bit, AreSharedBit, AreKeyBit}
use Rattle.share_types.specs.declared.needs.Needs.{Needs}
use Rattle.share_types.specs.declared.records.SharedBit.{SharedBit}
use Rattle.share_types.specs.declared.records.KeyBit.{KeyBit}
use Rattle.dealer_files.specs.Part.{Part}
use Rattle.dealer_files.specs.Honest.{HonestTogether}

-- a party's offset
abbrev pub offset_of : List Part → Part → ℕ → ℕ
offset_of parts d party = (get_or parts party d).offset

-- so many of a party's shared bits and key bits from a place on
abbrev pub shared_from : List Part → Part → ℕ → ℕ → ℕ → List SharedBit
shared_from parts d first width party = take width (drop first (get_or parts party d).shared)

abbrev pub keys_from : List Part → Part → ℕ → ℕ → ℕ → List KeyBit
keys_from parts d first width party = take width (drop first (get_or parts party d).keys)

-- all parties' offsets are odd
abbrev pub OffsetsAreOdd : Type 0
OffsetsAreOdd =
    (parts : List Part) (parties id : ℕ) (counts : Needs) (d : Part) → HonestTogether parts parties id counts →
    (party : ℕ) → party < parties → bit (offset_of parts d party) 0 ≡ true

-- all parties' key bits from a place on are honest: of each owner the XOR of its keys is the XOR of the bits times its
-- offset
abbrev pub KeyBitsAreHonest : Type 0
KeyBitsAreHonest =
    (parts : List Part) (parties id : ℕ) (counts : Needs) (d : Part) (k : KeyBit) (first width : ℕ) →
    HonestTogether parts parties id counts → first + width ≤ counts.key →
    (at : ℕ) → at < width →
    AreKeyBit parties (offset_of parts d) (λ party. get_or (keys_from parts d first width party) at k)

-- all parties' shared bits from a place on are honest: the sum of the words is the XOR of the bits
abbrev pub SharedBitsAreHonest : Type 0
SharedBitsAreHonest =
    (parts : List Part) (parties id : ℕ) (counts : Needs) (d : Part) (s : SharedBit) (first width : ℕ) →
    HonestTogether parts parties id counts → first + width ≤ counts.shared →
    (at : ℕ) → at < width → AreSharedBit parties (λ party. get_or (shared_from parts d first width party) at s)
