use Rattle.std.proofs.Common.{◌≡◌, ℕ, ◌<◌, nat_lt, if◌then◌else◌, length}
use Rattle.share_types.specs.Keys.{◌⊕◌, key_at}
use Rattle.bmr_keys.specs.Payload.{key_in}
use Rattle.bmr_garble.proofs.table.Table.join_payload.Given as goal

abbrev pub invariant-loop-k : goal.invariant-loop-k
invariant-loop-k l =
    (l.self.width ≡ l.initial.self.width)
    × (l.self.parties ≡ l.initial.self.parties)
    × (length l.self.rows ≡ length l.initial.self.rows)
    × ((k : ℕ) → k < length l.initial.self.rows →
    key_at l.self.rows k ≡ key_at l.initial.self.rows k ⊕ (if nat_lt k l.k then key_in l.payload k else 0))
