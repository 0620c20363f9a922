use Rattle.bmr_keys.proofs.Masks.{flip-recombines}
use Rattle.bmr_keys.proofs.laws.flip_recombines.Goals as goal

pub returns : goal.returns
returns c = flip-recombines
