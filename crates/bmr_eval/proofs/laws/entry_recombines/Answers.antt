use Rattle.bmr_eval.proofs.Evaluating.{entry-recombines}
use Rattle.bmr_eval.proofs.laws.entry_recombines.Goals as goal

pub returns : goal.returns
returns c = entry-recombines
