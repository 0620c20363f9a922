use Rattle.local_engine.proofs.Taking.{bristol_plans_take_inputs}
use Rattle.local_engine.proofs.laws.bristol_plans_take_inputs.Goals as goal

pub returns : goal.returns
returns c = bristol_plans_take_inputs
