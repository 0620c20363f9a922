use Rattle.std.proofs.lemmas.Nat.{and_mask}
use Rattle.share_types.proofs.bits.Bits.slice.Goals as goal

pub returns-clause-word : goal.returns-clause-word
returns-clause-word c = rw c.ones.ensures (and_mask _ c.args.width)
