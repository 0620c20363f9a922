use Rattle.bristol_reader.proofs.ExistsLemmas.{each_evaluates}
use Rattle.bristol_reader.proofs.evaluate.each_circuit_evaluates.Goals as goal

pub returns : goal.returns
returns c = each_evaluates
