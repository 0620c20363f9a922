use Rattle.gate_plan.proofs.AdderLemmas.{adder_adds}
use Rattle.gate_plan.proofs.adder.adder_adds.Goals as goal

pub returns : goal.returns
returns c = adder_adds
