use Rattle.std.proofs.Common.{◌≡◌}
use Rattle.library_bench.proofs.tapes.read_words.Given as goal

abbrev pub invariant-loop-at : goal.invariant-loop-at
invariant-loop-at l = l.tape.place ≡ l._at
