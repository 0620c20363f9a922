-- The words of a tape that a party gives out as shares.
use Rattle.std.specs.Prelude.{ℕ, List, map, nat_eq, if◌then◌else◌}
use Rattle.std.specs.List.{range_with_len}
use Rattle.mot_base.specs.Tape.{share_of_tape}

-- the share word for a party, and 0 for the party `me` that gives out
unfoldable pub word_of : List ℕ → ℕ → ℕ → ℕ → ℕ → ℕ
word_of seed session gate me to = if nat_eq to me then 0 else share_of_tape seed session gate to

-- the share words for the first parties, in order
abbrev pub words_of : List ℕ → ℕ → ℕ → ℕ → ℕ → List ℕ
words_of seed session gate me count = map (word_of seed session gate me) (range_with_len 0 count)
