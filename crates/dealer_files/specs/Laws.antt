-- What files, parts and faults have to do with one another.
use Rattle.std.specs.Prelude.{◌≡◌, ℕ, ◌<◌, ◌^◌, ◌⊎◌, List, All}
use Rattle.share_types.specs.declared.records.MultTriple.{MultTriple}
use Rattle.share_types.specs.declared.records.SharedBit.{SharedBit}
use Rattle.share_types.specs.declared.records.KeyBit.{KeyBit}
use Rattle.dealer_files.specs.declared.fault.DealerError.{DealerError}
use Rattle.dealer_files.specs.Part.{Part}
use Rattle.dealer_files.specs.File.{IsFile}
use Rattle.dealer_files.specs.Checks.{IsFirstFault}

-- the numbers of a record are words of 64 bits and keys of 128 bits
abbrev pub MultFits : MultTriple → Type 0
MultFits t = (t.a < 2 ^ 64) × (t.b < 2 ^ 64) × (t.c < 2 ^ 64)

abbrev pub SharedFits : SharedBit → Type 0
SharedFits s = s.word < 2 ^ 64

abbrev pub KeyBitFits : KeyBit → Type 0
KeyBitFits k = All (λ key. key.0 < 2 ^ 128) k.times

-- the numbers of a part are words and keys, as in every part of the code
pub record IsOfNumbers (p : Part) : Type 0 where
  pub id : p.id < 2 ^ 64
  pub offset : p.offset < 2 ^ 128
  pub mult : All MultFits p.mult
  pub shared : All SharedFits p.shared
  pub keys : All KeyBitFits p.keys

-- the file of a part has no first fault
abbrev pub FileHasNoFault : Type 0
FileHasNoFault = (bytes : List ℕ) (p : Part) (fault : DealerError) → IsFile bytes p → IsFirstFault bytes fault → ⊥

-- a list of bytes is the file of one part at most
abbrev pub FileIsOfOnePart : Type 0
FileIsOfOnePart =
    (bytes : List ℕ) (p q : Part) → IsOfNumbers p → IsOfNumbers q → IsFile bytes p → IsFile bytes q → p ≡ q

-- of a list of bytes exactly one is the case: it is the file of one part, or shows one first fault
pub record FileOrFault (bytes : List ℕ) : Type 0 where
  pub some : ((p : Part) × IsOfNumbers p × IsFile bytes p) ⊎ ((fault : DealerError) × IsFirstFault bytes fault)
  pub not_both : (p : Part) (fault : DealerError) → IsFile bytes p → IsFirstFault bytes fault → ⊥
  pub one_part : (p q : Part) → IsOfNumbers p → IsOfNumbers q → IsFile bytes p → IsFile bytes q → p ≡ q
  pub one_fault : (fault other : DealerError) → IsFirstFault bytes fault → IsFirstFault bytes other → fault ≡ other

abbrev pub EachIsFileOrFaults : Type 0
EachIsFileOrFaults = (bytes : List ℕ) → All (λ byte. byte < 256) bytes → FileOrFault bytes
