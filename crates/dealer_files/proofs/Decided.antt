-- Each list of bytes is the file of one part, or shows one first fault.
use Rattle.std.proofs.Common.{◌≡◌, ℕ, zero, suc, ◌+◌, ◌*◌, ◌<◌, ◌≤◌, ◌⊎◌, inl, inr, List, length, get_or, All, Option, Some, None, refl, sym, ap, subst, ◌∙◌, arith}
use Rattle.std.proofs.lemmas.Bool.{cases_lt}
use Rattle.std.proofs.lemmas.List.{get_or_past}
use Rattle.share_types.specs.declared.needs.Needs.{Needs}
use Rattle.dealer_files.specs.declared.fault.DealerError.{DealerError}
use Rattle.dealer_files.specs.declared.fault.DealerError.TheVariants.{Magic, Version, Party, OffsetEven, Counts, RecordBits, Short, Long, NoMemory}
use Rattle.dealer_files.specs.File.{bits_start, shared_start, keys_start, key_bit_size, IsFile}
use Rattle.dealer_files.specs.Part.{Part}
use Rattle.dealer_files.specs.Checks.{IsAbove, IsFirst, IsWrongRecord, IsWrongByte, IsRecordsFault, IsFirstFault, head_fault, stated_parties, stated_counts, stated_length}
use Rattle.dealer_files.specs.Laws.{IsOfNumbers, EachIsFileOrFaults}
use Rattle.dealer_files.proofs.Heads.{passed}
use Rattle.dealer_files.proofs.Parted.{one-part}
use Rattle.dealer_files.proofs.Places.{NotAbove, not_above-none, not_above-more, above-none, above-first, first-bits, first-shared, first-keys, none-wrong}
use Rattle.dealer_files.proofs.Parsed.{is-read}
use Rattle.dealer_files.proofs.Spelled.{IsBytes}
use Rattle.dealer_files.proofs.Whole.{no-fault, none-is}

-- there is a first place where something holds, or it holds nowhere
abbrev FirstOrNone : (ℕ → Type 0) → Type 0
FirstOrNone P = ((place : ℕ) × IsFirst P place) ⊎ ((place : ℕ) → P place → ⊥)

-- the first of the records up to one that begins with too great a byte
search_to : (bytes : List ℕ) (most start size count at : ℕ) → at ≤ count →
    ((place : ℕ) × IsFirst (IsAbove bytes most start size count) place) ⊎ NotAbove bytes most start size at
search_to bytes most start size count zero h = inr (not_above-none bytes most start size)
search_to bytes most start size count (suc at) h = elim (search_to bytes most start size count at (omega arith)) [
  | inl found ↦ inl found
  | inr below ↦ elim (cases_lt most (get_or bytes (start + size * at) 0)) [
    | inl high ↦ inl (start + size * at, above-first bytes most start size count at (start + size * at) (omega arith) refl below high)
    | inr low ↦
        let next : at + 1 ≡ suc at = omega arith in
        inr (subst (NotAbove bytes most start size) next (not_above-more bytes most start size at (start + size * at) refl below low))
  ]
]

first_above : (bytes : List ℕ) (most start size count : ℕ) → FirstOrNone (IsAbove bytes most start size count)
first_above bytes most start size count = elim (search_to bytes most start size count count (omega arith)) [
  | inl found ↦ inl found
  | inr below ↦ inr (above-none bytes most start size count count (omega arith) below)
]

first_wrong : (bytes : List ℕ) (parties : ℕ) (n : Needs) → FirstOrNone (IsWrongRecord bytes parties n)
first_wrong bytes parties n = elim (first_above bytes 7 (bits_start n) 1 n.bit) [
  | inl bit ↦ inl (bit.0, first-bits bytes parties n bit.0 bit.1)
  | inr bits ↦ elim (first_above bytes 1 (shared_start n) 9 n.shared) [
    | inl flag ↦ inl (flag.0, first-shared bytes parties n flag.0 bits flag.1)
    | inr shared ↦ elim (first_above bytes 1 (keys_start n) (key_bit_size parties) n.key) [
      | inl flag ↦ inl (flag.0, first-keys bytes parties n flag.0 bits shared flag.1)
      | inr keys ↦ inr (none-wrong bytes parties n bits shared keys)
    ]
  ]
]

are_bytes : (bytes : List ℕ) → All (λ byte. byte < 256) bytes → IsBytes bytes
are_bytes bytes all i = elim (cases_lt i (length bytes)) [
  | inl inside ↦ all i 0 inside
  | inr outside ↦ rw (get_or_past bytes i 0 outside) (omega arith)
]

-- what a list of bytes is
abbrev IsEither : List ℕ → Type 0
IsEither bytes = ((p : Part) × IsOfNumbers p × IsFile bytes p) ⊎ ((fault : DealerError) × IsFirstFault bytes fault)

by_records : (bytes : List ℕ) → IsBytes bytes → head_fault bytes ≡ None → length bytes ≡ stated_length bytes → IsEither bytes
by_records bytes small head long = elim (first_wrong bytes (stated_parties bytes) (stated_counts bytes)) [
  | inl wrong ↦ inr (RecordBits wrong.0, inr (head, (long, wrong.1)))
  | inr right ↦ inl (is-read bytes small long right (passed bytes head))
]

by_length : (bytes : List ℕ) → IsBytes bytes → head_fault bytes ≡ None → IsEither bytes
by_length bytes small head = elim (cases_lt (length bytes) (stated_length bytes)) [
  | inl short ↦ inr (Short, inr (head, short))
  | inr enough ↦ elim (cases_lt (stated_length bytes) (length bytes)) [
    | inl more ↦ inr (Long, inr (head, more))
    | inr no_more ↦ by_records bytes small head (omega arith)
  ]
]

by_head : (bytes : List ℕ) → IsBytes bytes → (found : Option DealerError) → head_fault bytes ≡ found → IsEither bytes
by_head bytes small (Some fault) e = inr (fault, inl e)
by_head bytes small None e = by_length bytes small e

one_first : (P : ℕ → Type 0) (a b : ℕ) → IsFirst P a → IsFirst P b → a ≡ b
one_first P a b first second = elim (cases_lt a b) [
  | inl less ↦ absurd (second.before a less first.here)
  | inr le ↦ elim (cases_lt b a) [
    | inl more ↦ absurd (first.before b more second.here)
    | inr ge ↦ omega arith
  ]
]

-- how a fault behind the fields shows
abbrev Shows : List ℕ → DealerError → Type 0
Shows bytes fault =
    ((fault ≡ Short) × (length bytes < stated_length bytes))
    ⊎ ((fault ≡ Long) × (stated_length bytes < length bytes))
    ⊎ ((place : ℕ) × (fault ≡ RecordBits place) × (length bytes ≡ stated_length bytes) × IsFirst (IsWrongByte bytes) place)

shows : (bytes : List ℕ) (fault : DealerError) → IsRecordsFault bytes fault → Shows bytes fault
shows bytes Short h = inl (refl, h)
shows bytes Long h = inr (inl (refl, h))
shows bytes (RecordBits place) h = inr (inr (place, refl, h.0, h.1))
shows bytes Magic h = absurd h
shows bytes Version h = absurd h
shows bytes Party h = absurd h
shows bytes OffsetEven h = absurd h
shows bytes Counts h = absurd h
shows bytes NoMemory h = absurd h

one_shown : (bytes : List ℕ) (fault other : DealerError) → Shows bytes fault → Shows bytes other → fault ≡ other
one_shown bytes fault other (inl a) (inl b) = a.0 ∙ sym b.0
one_shown bytes fault other (inl a) (inr (inl b)) = let less = a.1 in let more = b.1 in absurd (omega arith)
one_shown bytes fault other (inl a) (inr (inr b)) = let less = a.1 in let same = b.2 in absurd (omega arith)
one_shown bytes fault other (inr (inl a)) (inl b) = let more = a.1 in let less = b.1 in absurd (omega arith)
one_shown bytes fault other (inr (inl a)) (inr (inl b)) = a.0 ∙ sym b.0
one_shown bytes fault other (inr (inl a)) (inr (inr b)) = let more = a.1 in let same = b.2 in absurd (omega arith)
one_shown bytes fault other (inr (inr a)) (inl b) = let same = a.2 in let less = b.1 in absurd (omega arith)
one_shown bytes fault other (inr (inr a)) (inr (inl b)) = let same = a.2 in let more = b.1 in absurd (omega arith)
one_shown bytes fault other (inr (inr a)) (inr (inr b)) =
    a.1 ∙ (ap (λ place. RecordBits place) (one_first (IsWrongByte bytes) a.0 b.0 a.3 b.3) ∙ sym b.1)

one_some : (found : Option DealerError) (fault other : DealerError) → found ≡ Some fault → found ≡ Some other → fault ≡ other
one_some found fault other a b = cc

one_fault_of : (bytes : List ℕ) (fault other : DealerError) → IsFirstFault bytes fault → IsFirstFault bytes other → fault ≡ other
one_fault_of bytes fault other first second = elim first [
  | inl head ↦ elim second [
    | inl again ↦ one_some (head_fault bytes) fault other head again
    | inr records ↦ absurd (none-is fault (head_fault bytes) records.0 head)
  ]
  | inr records ↦ elim second [
    | inl head ↦ absurd (none-is other (head_fault bytes) records.0 head)
    | inr again ↦ one_shown bytes fault other (shows bytes fault records.1) (shows bytes other again.1)
  ]
]

pub each_is_file_or_faults : EachIsFileOrFaults
each_is_file_or_faults bytes all = record {
  some = by_head bytes (are_bytes bytes all) (head_fault bytes) refl;
  not_both = no-fault bytes;
  one_part = one-part bytes;
  one_fault = one_fault_of bytes;
}
