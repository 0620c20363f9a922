use Rattle.bmr_eval.proofs.Evaluating.{wires-evaluate}
use Rattle.bmr_eval.proofs.laws.wires_evaluate.Goals as goal

pub returns : goal.returns
returns c = wires-evaluate
