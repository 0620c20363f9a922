-- What a party uses its tape for.
use Rattle.std.specs.Prelude.{ℕ, ◌≡◌, ◌<◌, ◌≤◌, ◌+◌}
use Rattle.mot_base.specs.Limits.{most_parties, most_gates, session_count}
use Rattle.mot_base.specs.Tape.{share_place}

-- a use of a tape: the share word for a party at a gate of a session
pub record Use : Type 0 where
  pub session : ℕ
  pub gate : ℕ
  pub to : ℕ

pub record IsUse (u : Use) : Type 0 where
  pub session : u.session < session_count
  pub gate : u.gate < most_gates
  pub to : u.to < most_parties

-- a use reads two words of the tape, one behind the other
abbrev pub Reads : Use → ℕ → Type 0
Reads u place = (share_place u.session u.gate u.to ≤ place) × (place < share_place u.session u.gate u.to + 2)

-- two different uses read no place both
abbrev pub UsesNeverMeet : Type 0
UsesNeverMeet = (u v : Use) (place : ℕ) → IsUse u → IsUse v → Reads u place → Reads v place → u ≡ v
