use Rattle.std.proofs.Common.{◌≡◌, length}
use Rattle.key_tests.proofs.wide.key_record.Given as goal

abbrev pub invariant-loop-owner : goal.invariant-loop-owner
invariant-loop-owner l = length l.keys.items ≡ l.owner
