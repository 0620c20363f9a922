-- The function that hides the keys of a garbled table, and the zero keys of a tape.
use Rattle.std.specs.Prelude.{ℕ, ◌-◌, ◌*◌, ◌%◌, ◌++◌, List, [], ◌∷◌}
use Rattle.sha2.specs.Sha256.{sha256}
use Rattle.byteorder.specs.Endian.{big_bytes, big_number}
use Rattle.mot_base.specs.Tape.{key_of_tape}

-- the bytes of two keys, a gate, a bit, a row and an owner, each number with the high byte first
unfoldable pub hiding_text : ℕ → ℕ → ℕ → ℕ → ℕ → ℕ → List ℕ
hiding_text x y gate index row owner =
    big_bytes 16 x ++ big_bytes 16 y ++ big_bytes 4 gate ++ index ∷ row ∷ owner ∷ []

-- the key that the bytes of a hash begin with
unfoldable pub first_key : List ℕ → ℕ
first_key bytes = big_number 16 bytes

-- what hides a key of a table: the first 16 bytes of SHA-256 (FIPS 180-4) of the 39 bytes, as a number with the high
-- byte first
unfoldable pub hiding_key : ℕ → ℕ → ℕ → ℕ → ℕ → ℕ → ℕ
hiding_key x y gate index row owner = first_key (sha256 (hiding_text x y gate index row owner))

-- a key with its least bit cleared
abbrev pub even_key : ℕ → ℕ
even_key key = key - key % 2

-- where a tape holds the zero key of a key record
abbrev pub zero_key_place : ℕ → ℕ
zero_key_place record_number = 4 * record_number

-- the zero key of a key record: four words of the tape with the least bit cleared
unfoldable pub zero_key_of : List ℕ → ℕ → ℕ
zero_key_of seed record_number = even_key (key_of_tape seed (zero_key_place record_number))
