use Rattle.bmr_eval.proofs.Evaluating.{flip-recombines}
use Rattle.bmr_eval.proofs.laws.flip_recombines.Goals as goal

pub returns : goal.returns
returns c = flip-recombines
