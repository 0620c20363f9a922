use Rattle.std.proofs.Common.{◌≡◌, map}
use Rattle.std.specs.List.{range_with_len}
use Rattle.dealer_maker.specs.Draws.{share_drawn, owner_begin}
use Rattle.dealer_maker.proofs.rows.Seat.shares.Given as goal

abbrev pub invariant-loop-owner : goal.invariant-loop-owner
invariant-loop-owner l =
    (l.place ≡ owner_begin l.self.parties l.from l.owner)
    × (l.keys.items ≡ map (share_drawn l.draws.seed l.self.parties l.self.party l.from) (range_with_len 0 l.owner))
