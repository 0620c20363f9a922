use Rattle.bmr_eval.proofs.Evaluating.{zero-recombines}
use Rattle.bmr_eval.proofs.laws.zero_recombines.Goals as goal

pub returns : goal.returns
returns c = zero-recombines
