-- The checks of a dealer file, in their order.
use Rattle.std.specs.Prelude.{◌≡◌, ℕ, ◌<◌, ◌+◌, ◌*◌, ◌%◌, ◌==◌, ◌&&◌, ◌⊎◌, Bool, nat_lt, nat_le, if◌then◌else◌, List, [], ◌∷◌, length, take, drop, slice_index, Option, Some, None, Result, Ok, Err}
use Rattle.std.specs.Str.{bytes_eq}
use Rattle.byteorder.specs.Endian.{big_number}
use Rattle.mot_base.specs.Limits.{least_parties, most_parties, most_file_bytes}
use Rattle.share_types.specs.declared.needs.Needs.{Needs}
use Rattle.dealer_files.specs.declared.fault.DealerError.{DealerError}
use Rattle.dealer_files.specs.declared.fault.DealerError.TheVariants.{Magic, Version, Party, OffsetEven, Counts, RecordBits, Short, Long, NoMemory}
use Rattle.dealer_files.specs.File.{magic, version, key_bit_size, bits_start, shared_start, keys_start, file_length}

-- the counts that a file states
unfoldable pub stated_counts : List ℕ → Needs
stated_counts bytes = record {
  mult = big_number 4 (drop 31 bytes);
  bit = big_number 4 (drop 35 bytes);
  shared = big_number 4 (drop 39 bytes);
  key = big_number 4 (drop 43 bytes);
}

-- the parties that it states, and its own length by what it states
abbrev pub stated_parties : List ℕ → ℕ
stated_parties bytes = slice_index bytes 5

abbrev pub stated_length : List ℕ → ℕ
stated_length bytes = file_length (stated_parties bytes) (stated_counts bytes)

-- What a check of a field finds in a file: Short where the file ends before the field does, the check's cause
-- where the field does not pass, and else nothing.
abbrev pub checked : List ℕ → ℕ → Bool → DealerError → Option DealerError
checked bytes ends passes cause =
    if nat_lt (length bytes) ends then Some Short else if passes then None else Some cause

unfoldable pub magic_fault : List ℕ → Option DealerError
magic_fault bytes = checked bytes 4 (bytes_eq (take 4 bytes) magic) Magic

unfoldable pub version_fault : List ℕ → Option DealerError
version_fault bytes = checked bytes 5 (slice_index bytes 4 == version) Version

unfoldable pub party_fault : List ℕ → Option DealerError
party_fault bytes =
    checked bytes 7
    (nat_le least_parties (stated_parties bytes) && nat_le (stated_parties bytes) most_parties
    && nat_lt (slice_index bytes 6) (stated_parties bytes))
    Party

-- the deal's number stands before the offset
unfoldable pub offset_fault : List ℕ → Option DealerError
offset_fault bytes = checked bytes 31 (big_number 16 (drop 15 bytes) % 2 == 1) OffsetEven

unfoldable pub counts_fault : List ℕ → Option DealerError
counts_fault bytes = checked bytes 47 (nat_le (stated_length bytes) most_file_bytes) Counts

-- the first fault of a list of findings
abbrev pub first_of : List (Option DealerError) → Option DealerError
first_of [] = None
first_of (Some fault ∷ findings) = Some fault
first_of (None ∷ findings) = first_of findings

-- the first fault of the fields before the records
abbrev pub head_fault : List ℕ → Option DealerError
head_fault bytes =
    first_of (magic_fault bytes ∷ version_fault bytes ∷ party_fault bytes ∷ offset_fault bytes ∷ counts_fault bytes ∷ [])

-- at a place there begins one of `count` records of `size` bytes, of which the first stands at `start`, and
-- the byte there is above the most that it may be
pub record IsAbove (bytes : List ℕ) (most start size count place : ℕ) : Type 0 where
  pub at : ℕ
  pub among : at < count
  pub there : place ≡ start + size * at
  pub above : most < slice_index bytes place

-- In a file of so many parties with these counts, the byte at a place is a bit record above 7, or above 1 where
-- the flag of a shared bit or of a key bit stands.
abbrev pub IsWrongRecord : List ℕ → ℕ → Needs → ℕ → Type 0
IsWrongRecord bytes parties n place =
    IsAbove bytes 7 (bits_start n) 1 n.bit place
    ⊎ IsAbove bytes 1 (shared_start n) 9 n.shared place
    ⊎ IsAbove bytes 1 (keys_start n) (key_bit_size parties) n.key place

-- the same of what the file states
abbrev pub IsWrongByte : List ℕ → ℕ → Type 0
IsWrongByte bytes place = IsWrongRecord bytes (stated_parties bytes) (stated_counts bytes) place

-- the first place where something holds
pub record IsFirst (P : ℕ → Type 0) (place : ℕ) : Type 0 where
  pub here : P place
  pub before : (earlier : ℕ) → earlier < place → P earlier → ⊥

-- the first fault behind the fields
abbrev pub IsRecordsFault : List ℕ → DealerError → Type 0
IsRecordsFault bytes Short = length bytes < stated_length bytes
IsRecordsFault bytes Long = stated_length bytes < length bytes
IsRecordsFault bytes (RecordBits place) = (length bytes ≡ stated_length bytes) × IsFirst (IsWrongByte bytes) place
IsRecordsFault bytes other = ⊥

-- the first fault of a file: one of its fields, or else one of its records
abbrev pub IsFirstFault : List ℕ → DealerError → Type 0
IsFirstFault bytes fault =
    (head_fault bytes ≡ Some fault) ⊎ ((head_fault bytes ≡ None) × IsRecordsFault bytes fault)

-- what an answer says of the file: its first fault, and nothing where memory ran out
abbrev pub IsFaultOf : List ℕ → DealerError → Type 0
IsFaultOf bytes fault = (fault ≡ NoMemory) ⊎ IsFirstFault bytes fault

-- what a check of the code found
abbrev pub found : Result (Unit {0}) DealerError → Option DealerError
found (Ok _) = None
found (Err fault) = Some fault
