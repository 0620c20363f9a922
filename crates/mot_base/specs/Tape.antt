-- What a seed stands for: seeds derived from it, and the words of its tape.
use Rattle.std.specs.Prelude.{ℕ, ◌+◌, ◌*◌, ◌^◌, List, [], ◌∷◌, ◌++◌, map}
use Rattle.std.specs.List.{range_with_len}
use Rattle.sha2.specs.Sha256.{sha256}
use Rattle.rand_chacha.specs.ChaCha.{word_at, key_of}
use Rattle.mot_base.specs.Limits.{most_parties}

-- the seed that belongs to a label: SHA-256 of the seed's bytes and the label
abbrev pub derived_seed : List ℕ → ℕ → List ℕ
derived_seed seed label = sha256 (seed ++ label ∷ [])

-- the word at a place of the tape: of stream 0 of ChaCha20 (10 double rounds) under the seed
unfoldable pub word_of_tape : List ℕ → ℕ → ℕ
word_of_tape seed place = word_at 10 (key_of seed) 0 place

-- two words of the tape, from a place on, make a word of 64 bits, the low one first
abbrev pub long_word_of_tape : List ℕ → ℕ → ℕ
long_word_of_tape seed place = word_of_tape seed place + 2 ^ 32 * word_of_tape seed (place + 1)

-- four words of the tape, from a place on, make a number of 128 bits, the lowest word first
abbrev pub key_of_tape : List ℕ → ℕ → ℕ
key_of_tape seed place = long_word_of_tape seed place + 2 ^ 64 * long_word_of_tape seed (place + 2)

-- a tape is read at places below this
abbrev pub tape_length : ℕ
tape_length = 2 ^ 64

-- a tape that is read on from a place
pub record TapeAt : Type 0 where
  pub seed : List ℕ
  pub place : ℕ

-- where a tape holds the share word of a session and a gate for a party
abbrev pub share_place : ℕ → ℕ → ℕ → ℕ
share_place session gate to = 2 ^ 48 + 2 ^ 26 * session + 16 * gate + 2 * to

-- the share word of a session and a gate for a party
abbrev pub share_of_tape : List ℕ → ℕ → ℕ → ℕ → ℕ
share_of_tape seed session gate to = long_word_of_tape seed (share_place session gate to)

-- the share words of a session and a gate for all parties in order
abbrev pub shares_of_tape : List ℕ → ℕ → ℕ → List ℕ
shares_of_tape seed session gate = map (share_of_tape seed session gate) (range_with_len 0 most_parties)
