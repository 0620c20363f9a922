use Rattle.gate_plan.proofs.AdderFitLemmas.{adder_counts}
use Rattle.gate_plan.proofs.adder.adder_counts.Goals as goal

pub returns : goal.returns
returns c = adder_counts
