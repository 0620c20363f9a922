use Rattle.mixed_language.proofs.EvalLemmas.{flipped_word}
use Rattle.mixed_language.proofs.evaluate.flipped.Goals as goal

pub returns : goal.returns
returns c = rw c.ones.ensures (flipped_word c.args.x c.args.width c.ranges.x.fits c.requires)
