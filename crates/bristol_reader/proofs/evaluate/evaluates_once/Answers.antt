use Rattle.bristol_reader.proofs.EvalLemmas.{same_outputs}
use Rattle.bristol_reader.proofs.evaluate.evaluates_once.Goals as goal

pub returns : goal.returns
returns c = same_outputs
