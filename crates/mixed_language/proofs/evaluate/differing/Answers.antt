use Rattle.mixed_language.proofs.EvalLemmas.{xor_word}
use Rattle.mixed_language.proofs.evaluate.differing.Goals as goal

pub returns : goal.returns
returns c = xor_word c.args.x c.args.y c.ranges.x.fits c.ranges.y.fits
