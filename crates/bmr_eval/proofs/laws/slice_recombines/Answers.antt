use Rattle.bmr_eval.proofs.Evaluating.{slice-recombines}
use Rattle.bmr_eval.proofs.laws.slice_recombines.Goals as goal

pub returns : goal.returns
returns c = slice-recombines
