use Rattle.any_circuit.proofs.CircuitLemmas.{mixed_takes}
use Rattle.any_circuit.proofs.circuit.mixed_plan.Goals as goal

pub returns-clause-takes : goal.returns-clause-takes
returns-clause-takes c =
    mixed_takes c.args.circuit.now c.lower_mixed.result c.len-statements.ensures.circuit c.lower_mixed.ensures.plan
