use Rattle.std.proofs.Common.{◌≡◌, length}
use Rattle.key_tests.proofs.wide.joined.Given as goal

abbrev pub invariant-loop-party : goal.invariant-loop-party
invariant-loop-party l = (l.table.width ≡ 64) × (l.table.parties ≡ 8) × (length l.table.rows ≡ 2048)
