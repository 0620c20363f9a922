use Rattle.std.proofs.Common.{arith}
use Rattle.dealer_maker.proofs.Records.{words-fit}
use Rattle.dealer_maker.proofs.dealing.draw_count.Goals as goal

pub overflow_add-result-8 : goal.overflow_add-result-8
overflow_add-result-8 c =
    let whole = words-fit c.args.parties c.args.counts.now.mult c.args.counts.now.bit c.args.counts.now.shared c.args.counts.now.key
    c.requires.some c.requires.most (omega (arith, c.fits-counts)) (omega (arith, c.fits-counts))
    (omega (arith, c.fits-counts)) (omega (arith, c.fits-counts)) in
    rw (c.from-n.ensures, c.from.ensures, c.from-2.ensures, c.from-3.ensures, c.from-4.ensures) (omega (arith, whole))
