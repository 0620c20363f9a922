use Rattle.bmr_keys.proofs.Masks.{fresh-recombine}
use Rattle.bmr_keys.proofs.laws.fresh_recombine.Goals as goal

pub returns : goal.returns
returns c = fresh-recombine
