-- One party's part of a deal.
use Rattle.std.specs.Prelude.{◌≡◌, ℕ, ◌<◌, ◌≤◌, ◌%◌, List, length, All}
use Rattle.mot_base.specs.Limits.{least_parties, most_parties, dealt_records}
use Rattle.share_types.specs.declared.needs.Needs.{Needs}
use Rattle.share_types.specs.declared.records.MultTriple.{MultTriple}
use Rattle.share_types.specs.declared.records.SharedBit.{SharedBit}
use Rattle.share_types.specs.declared.records.KeyBit.{KeyBit}

-- what the dealer gives one party: the number of parties and the party's own, the number of the deal, the
-- party's offset, and its records of each kind; a bit triple is a byte
pub record Part : Type 0 where
  pub parties : ℕ
  pub party : ℕ
  pub id : ℕ
  pub offset : ℕ
  pub mult : List MultTriple
  pub bits : List ℕ
  pub shared : List SharedBit
  pub keys : List KeyBit

-- how many records of each kind it has
abbrev pub counts_of : Part → Needs
counts_of p = record { mult = length p.mult; bit = length p.bits; shared = length p.shared; key = length p.keys }

-- 2 to 8 parties, the party one of them, an odd offset, fewer than 2^32 records of a kind, bit records of
-- three bits, and in each key record a key for each owner
pub record IsPart (p : Part) : Type 0 where
  pub some_parties : least_parties ≤ p.parties
  pub most_parties : p.parties ≤ most_parties
  pub party : p.party < p.parties
  pub odd : p.offset % 2 ≡ 1
  pub mult : length p.mult < dealt_records
  pub bit : length p.bits < dealt_records
  pub shared : length p.shared < dealt_records
  pub key : length p.keys < dealt_records
  pub three_bits : All (λ r. r < 8) p.bits
  pub each_owner : All (λ k. length k.times ≡ p.parties) p.keys
