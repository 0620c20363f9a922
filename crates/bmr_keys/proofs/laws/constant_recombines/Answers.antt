use Rattle.bmr_keys.proofs.Masks.{constant-recombines}
use Rattle.bmr_keys.proofs.laws.constant_recombines.Goals as goal

pub returns : goal.returns
returns c = constant-recombines
