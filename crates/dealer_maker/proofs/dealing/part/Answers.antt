use Rattle.std.proofs.Common.{arith}
use Rattle.dealer_maker.specs.Draws.{part_drawn}
use Rattle.dealer_maker.proofs.Records.{drawn-is-part}
use Rattle.dealer_maker.proofs.dealing.part.Goals as goal

pub new-requires : goal.new-requires
unfolding part_drawn
new-requires c =
    let seat = c.args.seat.now in
    rw (c.long_word.ensures, c.offset.ensures, c.in_ok-mult.ensures, c.in_ok-bit.ensures, c.in_ok-shared.ensures, c.in_ok-key.ensures, c.from-n.ensures)
    (drawn-is-part c.args.draws.now.seed seat.parties c.args.counts.now seat.party seat.some seat.most seat.inside
    (omega (arith, c.fits-counts)) (omega (arith, c.fits-counts)) (omega (arith, c.fits-counts)) (omega (arith, c.fits-counts)))
