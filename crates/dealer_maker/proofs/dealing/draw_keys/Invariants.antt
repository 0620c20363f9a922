use Rattle.std.proofs.Common.{◌≡◌, ◌+◌, ◌*◌}
use Rattle.dealer_maker.specs.Draws.{key_drawn, rows, key_words}
use Rattle.dealer_maker.proofs.dealing.draw_keys.Given as goal

abbrev pub invariant-loop-at : goal.invariant-loop-at
invariant-loop-at l =
    (l.place ≡ l.from + key_words l.seat.parties * l._at)
    × (l.list.items ≡ rows (key_drawn l.draws.seed l.seat.parties l.seat.party) l.from (key_words l.seat.parties) l._at)
