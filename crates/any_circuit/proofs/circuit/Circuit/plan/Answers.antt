use Rattle.gate_plan.specs.Bristol.{are_keys}
use Rattle.any_circuit.proofs.CircuitLemmas.{bristol_takes}
use Rattle.any_circuit.proofs.circuit.Circuit.plan.Goals as goal

pub returns-in-Mixed-clause-too_many : goal.returns-in-Mixed-clause-too_many
returns-in-Mixed-clause-too_many c = rw c.in-Mixed.is c.mixed_plan.ensures.too_many

pub returns-in-Bristol-clause-too_many : goal.returns-in-Bristol-clause-too_many
returns-in-Bristol-clause-too_many c =
    rw c.in-Bristol.is c.lower_bristol.ensures.too_many

pub returns-in-Bristol-clause-takes : goal.returns-in-Bristol-clause-takes
returns-in-Bristol-clause-takes c =
    rw c.in-Bristol.is
    (bristol_takes (are_keys c.in-Bristol.words.sharing) c.in-Bristol.words.parties c.in-Bristol.circuit c.lower_bristol.result c.lower_bristol.ensures.plan)
