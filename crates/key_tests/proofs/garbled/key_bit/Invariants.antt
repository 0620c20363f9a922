use Rattle.std.proofs.Common.{◌≡◌, length}
use Rattle.key_tests.proofs.garbled.key_bit.Given as goal

abbrev pub invariant-loop-owner : goal.invariant-loop-owner
invariant-loop-owner l = length l.times.items ≡ l.owner
