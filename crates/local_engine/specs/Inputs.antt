-- From whom the gates of a circuit's plan take their inputs.
use Rattle.std.specs.Prelude.{ℕ, Bool}
use Rattle.mixed_language.specs.Circuit as mixed
use Rattle.mixed_language.specs.Valid.{IsCircuit}
use Rattle.mixed_language.specs.Table as mixed_table
use Rattle.bristol_reader.specs.Circuit as bristol
use Rattle.bristol_reader.specs.Table as bristol_table
use Rattle.gate_plan.specs.Lowering.{lowered}
use Rattle.gate_plan.specs.Bristol.{bristol_lowered}
use Rattle.local_run.specs.Inputs.{TakesInputs}

-- the plan of a mixed circuit takes the inputs of the circuit
abbrev pub MixedPlansTakeInputs : Type 0
MixedPlansTakeInputs =
    (c : mixed.Circuit) → IsCircuit c → TakesInputs (mixed_table.inputs_of c.statements) (lowered c)

-- and so does that of a circuit in Bristol Fashion, as keys or by XOR
abbrev pub BristolPlansTakeInputs : Type 0
BristolPlansTakeInputs =
    (keys : Bool) (parties : ℕ) (c : bristol.Circuit) →
    TakesInputs (bristol_table.inputs_of parties c) (bristol_lowered keys parties c)
