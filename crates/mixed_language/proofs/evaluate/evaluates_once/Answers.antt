use Rattle.mixed_language.proofs.EvalLemmas.{evaluates_once}
use Rattle.mixed_language.proofs.evaluate.evaluates_once.Goals as goal

pub returns : goal.returns
returns c = evaluates_once
