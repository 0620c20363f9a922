use Rattle.bmr_eval.proofs.Evaluating.{and-recombines}
use Rattle.bmr_eval.proofs.laws.and_recombines.Goals as goal

pub returns : goal.returns
returns c = and-recombines
