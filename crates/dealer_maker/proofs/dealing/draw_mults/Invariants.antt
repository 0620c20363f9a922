use Rattle.std.proofs.Common.{◌≡◌, ◌+◌, ◌*◌}
use Rattle.dealer_maker.specs.Draws.{mult_drawn, rows, mult_words}
use Rattle.dealer_maker.proofs.dealing.draw_mults.Given as goal

abbrev pub invariant-loop-at : goal.invariant-loop-at
invariant-loop-at l =
    (l.place ≡ l.from + mult_words l.seat.parties * l._at)
    × (l.list.items ≡ rows (mult_drawn l.draws.seed l.seat.parties l.seat.party) l.from (mult_words l.seat.parties) l._at)
