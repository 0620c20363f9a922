use Rattle.std.proofs.Common.{◌≡◌, ℕ, nat_lt, if◌then◌else◌, length}
use Rattle.share_types.specs.Keys.{◌⊕◌, key_at}
use Rattle.bmr_keys.proofs.lists.xored.Given as goal

abbrev pub invariant-loop-k : goal.invariant-loop-k
invariant-loop-k l =
    (length l.keys ≡ length l.xs)
    × ((k : ℕ) → key_at l.keys k ≡ key_at l.xs k ⊕ (if nat_lt k l.k then key_at l.ys k else 0))
