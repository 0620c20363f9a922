use Rattle.bmr_keys.proofs.Masks.{xor-recombines}
use Rattle.bmr_keys.proofs.laws.xor_recombines.Goals as goal

pub returns : goal.returns
returns c = xor-recombines
