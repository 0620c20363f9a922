use Rattle.local_engine.proofs.Taking.{mixed_plans_take_inputs}
use Rattle.local_engine.proofs.laws.mixed_plans_take_inputs.Goals as goal

pub returns : goal.returns
returns c = mixed_plans_take_inputs
