use Rattle.std.proofs.Common.{◌≡◌}
use Rattle.library_bench.proofs.dealer.draw_and_write.Given as goal

abbrev pub invariant-loop-at : goal.invariant-loop-at
invariant-loop-at l = l.tape.place ≡ l._at
