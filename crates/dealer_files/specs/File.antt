-- The bytes of a dealer file.
use Rattle.std.specs.Prelude.{◌≡◌, ℕ, ◌≤◌, ◌+◌, ◌*◌, List, [], ◌∷◌, ◌++◌}
use Rattle.std.specs.List.{flat_map}
use Rattle.byteorder.specs.Endian.{big_bytes}
use Rattle.mot_base.specs.Limits.{most_file_bytes}
use Rattle.share_types.specs.Bits.{once}
use Rattle.share_types.specs.declared.needs.Needs.{Needs}
use Rattle.share_types.specs.declared.keys.Key.{Key}
use Rattle.share_types.specs.declared.records.MultTriple.{MultTriple}
use Rattle.share_types.specs.declared.records.SharedBit.{SharedBit}
use Rattle.share_types.specs.declared.records.KeyBit.{KeyBit}
use Rattle.dealer_files.specs.Part.{Part, IsPart, counts_of}

-- a count in 4 bytes, a word in 8 and a key in 16, the highest byte first
unfoldable pub count_bytes : ℕ → List ℕ
count_bytes n = big_bytes 4 n

unfoldable pub word_bytes : ℕ → List ℕ
word_bytes n = big_bytes 8 n

unfoldable pub number_bytes : ℕ → List ℕ
number_bytes n = big_bytes 16 n

abbrev pub key_bytes : Key → List ℕ
key_bytes key = number_bytes key.0

-- the letters MOTD
abbrev pub magic : List ℕ
magic = 77 ∷ 79 ∷ 84 ∷ 68 ∷ []

abbrev pub version : ℕ
version = 1

abbrev pub counts_bytes : Needs → List ℕ
counts_bytes n = count_bytes n.mult ++ (count_bytes n.bit ++ (count_bytes n.shared ++ count_bytes n.key))

-- the 47 bytes before the records
abbrev pub head_bytes : ℕ → ℕ → ℕ → ℕ → Needs → List ℕ
head_bytes parties party id offset counts =
    magic ++ (version ∷ parties ∷ party ∷ (word_bytes id ++ (number_bytes offset ++ counts_bytes counts)))

-- 24 bytes
abbrev pub mult_bytes : MultTriple → List ℕ
mult_bytes t = word_bytes t.a ++ (word_bytes t.b ++ word_bytes t.c)

-- 9 bytes
abbrev pub shared_bytes : SharedBit → List ℕ
shared_bytes s = once s.bit ∷ word_bytes s.word

-- a byte, and 16 for each owner
abbrev pub key_bit_bytes : KeyBit → List ℕ
key_bit_bytes k = once k.bit ∷ flat_map key_bytes k.times

abbrev pub record_bytes : Part → List ℕ
record_bytes p =
    flat_map mult_bytes p.mult ++ (p.bits ++ (flat_map shared_bytes p.shared ++ flat_map key_bit_bytes p.keys))

-- the file of a part
unfoldable pub file_of : Part → List ℕ
file_of p = head_bytes p.parties p.party p.id p.offset (counts_of p) ++ record_bytes p

-- the bytes of a key record
abbrev pub key_bit_size : ℕ → ℕ
key_bit_size parties = 1 + 16 * parties

-- where the records of bits, of shared bits and of key bits begin
abbrev pub bits_start : Needs → ℕ
bits_start n = 47 + 24 * n.mult

abbrev pub shared_start : Needs → ℕ
shared_start n = bits_start n + n.bit

abbrev pub keys_start : Needs → ℕ
keys_start n = shared_start n + 9 * n.shared

-- the length of the file of a part with these counts
abbrev pub file_length : ℕ → Needs → ℕ
file_length parties n = keys_start n + key_bit_size parties * n.key

-- these bytes are the file of this part, which is within the limit
pub record IsFile (bytes : List ℕ) (p : Part) : Type 0 where
  pub part : IsPart p
  pub within : file_length p.parties (counts_of p) ≤ most_file_bytes
  pub spelled : bytes ≡ file_of p
