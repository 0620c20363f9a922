use Rattle.std.proofs.Common.{◌≡◌, length}
use Rattle.key_tests.proofs.wide.online.Given as goal

abbrev pub invariant-loop-place : goal.invariant-loop-place
invariant-loop-place l = length l.keys.items ≡ l.place
