use Rattle.bmr_eval.proofs.Evaluating.{xor-recombines}
use Rattle.bmr_eval.proofs.laws.xor_recombines.Goals as goal

pub returns : goal.returns
returns c = xor-recombines
