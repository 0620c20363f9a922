use Rattle.std.proofs.Common.{◌≡◌, length}
use Rattle.key_tests.proofs.garbled.add_all.Given as goal

abbrev pub invariant-loop-seat : goal.invariant-loop-seat
invariant-loop-seat l =
    (l.table.width ≡ l.initial.table.width)
    × (l.table.parties ≡ l.initial.table.parties)
    × (length l.table.rows ≡ length l.initial.table.rows)
