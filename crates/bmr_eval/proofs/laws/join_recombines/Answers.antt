use Rattle.bmr_eval.proofs.Evaluating.{join-recombines}
use Rattle.bmr_eval.proofs.laws.join_recombines.Goals as goal

pub returns : goal.returns
returns c = join-recombines
