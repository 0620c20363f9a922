use Rattle.std.proofs.Common.{◌≡◌, length, map}
use Rattle.std.specs.List.{range_with_len}
use Rattle.mot_base.specs.Tape.{word_of_tape}
use Rattle.dealer_maker.proofs.draws.Draws.new.Given as goal

abbrev pub invariant-loop-at : goal.invariant-loop-at
invariant-loop-at l =
    (l.tape.seed ≡ l.seed.0) × (l.tape.place ≡ l._at) × (length l.words.items ≡ l._at)
    × (l.words.items ≡ map (word_of_tape l.seed.0) (range_with_len 0 l._at))
