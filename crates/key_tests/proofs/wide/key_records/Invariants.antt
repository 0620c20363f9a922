use Rattle.std.proofs.Common.{◌≡◌, length, All}
use Rattle.key_tests.proofs.wide.key_records.Given as goal

abbrev pub invariant-loop-bit : goal.invariant-loop-bit
invariant-loop-bit l = (length l.records.items ≡ l.bit) × All (λ k. length k.times ≡ 8) l.records.items
