use Rattle.std.proofs.lemmas.Nat.{and_mask}
use Rattle.mixed_language.proofs.evaluate.low_bits.Goals as goal

pub returns : goal.returns
returns c = rw c.ones.ensures (and_mask c.args.x c.args.width)
