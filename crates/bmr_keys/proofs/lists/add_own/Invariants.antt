use Rattle.std.proofs.Common.{◌≡◌, ℕ, ◌*◌, ◌<◌, nat_lt, if◌then◌else◌, length}
use Rattle.share_types.specs.Keys.{◌⊕◌, key_of}
use Rattle.bmr_keys.specs.Mask.{own_times}
use Rattle.bmr_keys.proofs.lists.add_own.Given as goal

abbrev pub invariant-loop-i : goal.invariant-loop-i
invariant-loop-i l =
    (length l.keys ≡ l.c.width * l.owners)
    × ((i j : ℕ) → i < l.c.width → j < l.owners →
    key_of l.owners l.keys i j ≡ key_of l.owners l.initial.keys i j ⊕ (if nat_lt i l.i then own_times l.me.0 l.offset.0 l.c.word i j else 0))
