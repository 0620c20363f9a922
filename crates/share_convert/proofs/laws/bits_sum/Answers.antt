use Rattle.share_convert.proofs.Summing.{bits-sum}
use Rattle.share_convert.proofs.laws.bits_sum.Goals as goal

pub returns : goal.returns
returns c = bits-sum
