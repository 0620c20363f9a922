use Rattle.bmr_keys.proofs.Masks.{join-recombines}
use Rattle.bmr_keys.proofs.laws.join_recombines.Goals as goal

pub returns : goal.returns
returns c = join-recombines
