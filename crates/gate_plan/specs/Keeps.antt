-- That lowering keeps the plain evaluation.
use Rattle.std.specs.Prelude.{ℕ, ◌≡◌, List, map, slice_get, Some}
use Rattle.circuit_tables.specs.Table.{Told}
use Rattle.mixed_language.specs.Circuit.{Circuit, wire_at}
use Rattle.mixed_language.specs.Eval.{IsEvaluated, told_of}
use Rattle.plan_gates.specs.Plan.{Gates, IsPlan}
use Rattle.plan_gates.specs.Plain.{Outside, AreLawful, GateTold, told_by, plain_numbers}
use Rattle.gate_plan.specs.declared.wire.Wire.{Wire}
use Rattle.gate_plan.specs.Blocks.{IsNumberOf}
use Rattle.gate_plan.specs.Lowering.{is_keys, wires_of}

-- an output of a circuit without its name
abbrev pub unnamed : Told → GateTold
unnamed told = record { to = told.to; bits = told.bits }

-- whatever comes from outside, where the parts that the parties enter are lawful: the number of each
-- statement's value is that of its wire, and the output gates tell what the circuit tells, in the order of
-- its outputs
pub record KeepsValues (c : Circuit) (plan : Gates) (outside : Outside) (values : List ℕ) : Type 0 where
  pub values_kept : (at : ℕ) (value : ℕ) → slice_get values at ≡ Some value →
      (wire : Wire) × (slice_get (wires_of c) at ≡ Some wire)
      × IsNumberOf (is_keys (wire_at c.statements at)) (plain_numbers plan outside) wire value
  pub told_kept : told_by plan.gates (plain_numbers plan outside) ≡ map unnamed (told_of c values)

abbrev pub KeepsEvaluation : Circuit → Gates → Type 0
KeepsEvaluation c plan =
    (outside : Outside) (values : List ℕ) → AreLawful plan outside (plain_numbers plan outside) →
    IsEvaluated c.statements outside.inputs values →
    KeepsValues c plan outside values

-- the numbers of the inputs, and the parts that the parties enter
abbrev pub entering : List ℕ → (ℕ → ℕ → ℕ) → Outside
entering inputs parts = record { inputs = inputs; parts = parts }

-- every valid plan has lawful parts, on all inputs
abbrev pub PartsExist : Type 0
PartsExist =
    (plan : Gates) (inputs : List ℕ) → IsPlan plan →
    (parts : ℕ → ℕ → ℕ) × AreLawful plan (entering inputs parts) (plain_numbers plan (entering inputs parts))
