use Rattle.std.proofs.Common.{◌≡◌, ◌+◌, ◌*◌}
use Rattle.dealer_maker.specs.Draws.{word_total}
use Rattle.dealer_maker.proofs.draws.Draws.total.Given as goal

abbrev pub invariant-loop-at : goal.invariant-loop-at
invariant-loop-at l = (l.place ≡ l.from + l.step * l._at) × (l.sum ≡ word_total l.self.seed l.from l.step l._at)
