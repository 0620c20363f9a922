-- The places of names.
use Rattle.std.specs.Prelude.{ℕ, List, map, take, Option}
use Rattle.std.specs.HashMap.{HashMap}
use Rattle.std.specs.Map.{lookup}
use Rattle.std.specs.Str.{bytes_eq}
use Rattle.sha2.specs.Sha256.{sha256}
use Rattle.text_lines.specs.Text.{Text}
use denote.Ref.{Bor}

-- the place of a name among names with their places
abbrev pub place_in : List (Text × ℕ) → Text → Option ℕ
place_in places name = lookup (bytes_eq name) places

-- the key of a text: the first 16 bytes of its SHA-256
abbrev pub key_of : Text → List ℕ
key_of text = take 16 (sha256 text)

-- the names in a map, without where they lie in memory, with their places
abbrev pub entries_of : {S : Type 0} → HashMap (Bor Text) ℕ S → List (Text × ℕ)
entries_of places = map (λ entry. (entry.0.now, entry.1)) places.entries
