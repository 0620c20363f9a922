use Rattle.bmr_keys.proofs.Masks.{slice-recombines}
use Rattle.bmr_keys.proofs.laws.slice_recombines.Goals as goal

pub returns : goal.returns
returns c = slice-recombines
