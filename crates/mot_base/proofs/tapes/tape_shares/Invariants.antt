use Rattle.std.proofs.Common.{◌≡◌, length, take, map}
use Rattle.std.specs.List.{range_with_len}
use Rattle.mot_base.specs.Limits.{most_parties}
use Rattle.mot_base.specs.Tape.{share_place, share_of_tape}
use Rattle.mot_base.proofs.tapes.tape_shares.Given as goal

abbrev pub invariant-loop-to : goal.invariant-loop-to
invariant-loop-to l =
    (l.tape.seed ≡ l.seed.0)
    × (l.tape.place ≡ share_place l.session l.gate l.to)
    × (length l.shares ≡ most_parties)
    × (take l.to l.shares ≡ map (share_of_tape l.seed.0 l.session l.gate) (range_with_len 0 l.to))
