use Rattle.mixed_language.proofs.ExistsLemmas.{each_evaluates}
use Rattle.mixed_language.proofs.evaluate.each_circuit_evaluates.Goals as goal

pub returns : goal.returns
returns c = each_evaluates
