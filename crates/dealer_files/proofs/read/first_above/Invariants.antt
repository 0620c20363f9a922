use Rattle.std.proofs.Common.{◌≡◌, ◌+◌, ◌*◌}
use Rattle.dealer_files.proofs.Places.{NotAbove}
use Rattle.dealer_files.proofs.read.first_above.Given as goal

abbrev pub invariant-loop-at : goal.invariant-loop-at
invariant-loop-at l =
    (l.place ≡ l.start + l.size * l._at) × NotAbove l.bytes l.most l.start l.size l._at
