use Rattle.std.proofs.Common.{◌≡◌, ◌+◌, ◌*◌}
use Rattle.dealer_maker.specs.Draws.{bit_drawn, rows}
use Rattle.dealer_maker.proofs.dealing.draw_bits.Given as goal

abbrev pub invariant-loop-at : goal.invariant-loop-at
invariant-loop-at l =
    (l.place ≡ l.from + l.seat.parties * l._at)
    × (l.list.items ≡ rows (bit_drawn l.draws.seed l.seat.parties l.seat.party) l.from (l.seat.parties) l._at)
