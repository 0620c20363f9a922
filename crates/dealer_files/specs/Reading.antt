-- What is known of a file while it is read.
use Rattle.std.specs.Prelude.{◌≡◌, ℕ, ◌<◌, ◌≤◌, ◌*◌, ◌%◌, ◌^◌, List, length, take, drop, slice_index}
use Rattle.byteorder.specs.Endian.{big_number}
use Rattle.mot_base.specs.Limits.{least_parties, most_parties, most_file_bytes}
use Rattle.share_types.specs.declared.needs.Needs.{Needs}
use Rattle.dealer_files.specs.File.{magic, version, head_bytes, file_length}
use Rattle.dealer_files.specs.Checks.{stated_counts, stated_parties, stated_length}

-- a file whose fields before the records pass their checks
pub record Passed (bytes : List ℕ) : Type 0 where
  pub long : 47 ≤ length bytes
  pub letters : take 4 bytes ≡ magic
  pub version : slice_index bytes 4 ≡ version
  pub some_parties : least_parties ≤ stated_parties bytes
  pub most_parties : stated_parties bytes ≤ most_parties
  pub party : slice_index bytes 6 < stated_parties bytes
  pub odd : big_number 16 (drop 15 bytes) % 2 ≡ 1
  pub within : stated_length bytes ≤ most_file_bytes

-- the file begins with this head, which passes its checks, and whose id is a word and its offset a key
pub record IsHeadOf (bytes : List ℕ) (parties party id offset : ℕ) (counts : Needs) : Type 0 where
  pub long : 47 ≤ length bytes
  pub spelled : take 47 bytes ≡ head_bytes parties party id offset counts
  pub same_parties : parties ≡ stated_parties bytes
  pub same_counts : counts ≡ stated_counts bytes
  pub some_parties : least_parties ≤ parties
  pub most_parties : parties ≤ most_parties
  pub inside : party < parties
  pub odd : offset % 2 ≡ 1
  pub word : id < 2 ^ 64
  pub key : offset < 2 ^ 128
  pub within : file_length parties counts ≤ most_file_bytes

-- each of so many records of that size begins with a byte that is at most 1
abbrev pub AreFlags : List ℕ → ℕ → ℕ → Type 0
AreFlags bytes size count = (at : ℕ) → at < count → slice_index bytes (size * at) ≤ 1
