-- The bytes of what parties send: words of 8 bytes, and vectors of as many as their width asks for, each as a number with
-- the high byte first.
use Rattle.std.specs.Prelude.{ℕ, ◌*◌, List, drop}
use Rattle.std.specs.List.{flat_map}
use Rattle.byteorder.specs.Endian.{big_bytes, big_number}
use Rattle.share_types.specs.declared.bits.Bits.{Bits}
use Rattle.message_demux.specs.Slots.{vector_bytes}

-- the bytes of words
abbrev pub word_bytes : List ℕ → List ℕ
word_bytes words = flat_map (big_bytes 8) words

-- the word at a place of a payload
abbrev pub word_in : List ℕ → ℕ → ℕ
word_in payload i = big_number 8 (drop (8 * i) payload)

-- the bytes of the numbers of vectors of a width
abbrev pub vectors_bytes : ℕ → List ℕ → List ℕ
vectors_bytes width numbers = flat_map (big_bytes (vector_bytes width)) numbers

-- the bytes of a vector, in its own width
abbrev pub bytes_of_vector : Bits → List ℕ
bytes_of_vector vector = big_bytes (vector_bytes vector.width) vector.word

-- the number of the vector at a place of a payload of vectors of a width
abbrev pub vector_in : ℕ → List ℕ → ℕ → ℕ
vector_in width payload i = big_number (vector_bytes width) (drop (vector_bytes width * i) payload)
