-- A list of marks, one for each wire.
use Rattle.std.specs.Prelude.{ℕ, ◌≡◌, ◌<◌, Bool, false, not, ◌&&◌, ◌||◌, List, length, slice_index_or}
use Rattle.std.specs.List.{list_all}
use Rattle.bristol_reader.specs.Circuit.{is_among, are_apart}

-- whether a wire is marked
abbrev pub is_marked : List Bool → ℕ → Bool
is_marked marks w = slice_index_or marks w false

-- whether no wire is marked or stands twice
abbrev pub are_new_to : List Bool → List ℕ → Bool
are_new_to marks ws = list_all (λ w. not (is_marked marks w)) ws && are_apart ws

-- marks to which those of some wires were added
pub record IsMarked (before : List Bool) (ws : List ℕ) (after : List Bool) : Type 0 where
  pub count : length after ≡ length before
  pub each : (w : ℕ) → w < length before → is_marked after w ≡ (is_marked before w || is_among ws w)
