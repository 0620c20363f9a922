use Rattle.std.proofs.Common.{◌≡◌, map}
use Rattle.std.specs.List.{range_with_len}
use Rattle.dealer_maker.specs.Draws.{part_drawn}
use Rattle.dealer_maker.proofs.dealing.deal.Given as goal

abbrev pub invariant-loop-party : goal.invariant-loop-party
invariant-loop-party l = l.parts.items ≡ map (part_drawn l.seed.0 l.parties l.counts) (range_with_len 0 l.party)
