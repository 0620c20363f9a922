use Rattle.std.proofs.Common.{◌≡◌, ◌+◌, ◌*◌}
use Rattle.dealer_maker.specs.Draws.{shared_drawn, rows, shared_words}
use Rattle.dealer_maker.proofs.dealing.draw_shareds.Given as goal

abbrev pub invariant-loop-at : goal.invariant-loop-at
invariant-loop-at l =
    (l.place ≡ l.from + shared_words l.seat.parties * l._at)
    × (l.list.items ≡ rows (shared_drawn l.draws.seed l.seat.parties l.seat.party) l.from (shared_words l.seat.parties) l._at)
