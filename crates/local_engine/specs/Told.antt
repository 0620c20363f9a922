-- What each party is told, as outputs of the circuit from which a plan was made.
use Rattle.std.specs.Prelude.{ℕ, ◌≡◌, Bool, List, map, Some}
use Rattle.share_types.specs.declared.bits.Bits.{Bits}
use Rattle.share_types.specs.Bits.{number}
use Rattle.circuit_tables.specs.Table.{Told, asked, joined_bits, AreCut}
use Rattle.mixed_language.specs.Circuit as mixed
use Rattle.mixed_language.specs.Table as mixed_table
use Rattle.mixed_language.specs.Eval.{told_of}
use Rattle.bristol_reader.specs.Circuit as bristol
use Rattle.bristol_reader.specs.Table as bristol_table
use Rattle.bristol_reader.specs.Eval.{AreWireBits, output_bits}
use Rattle.plan_gates.specs.Plan.{Gates}
use Rattle.plan_gates.specs.Plain.{Outside}
use Rattle.gate_plan.specs.Keeps.{KeepsValues}
use Rattle.gate_plan.specs.Bristol.{KeepsBristol}
use Rattle.local_run.specs.Told.{outputs_to, AreToldInPlain}

-- vectors that a party is told are cut into the outputs of the plain evaluation that the party is told, of a mixed circuit
abbrev pub MixedOutputsAreTold : Type 0
MixedOutputsAreTold =
    (c : mixed.Circuit) (plan : Gates) (outside : Outside) (values : List ℕ) (p : ℕ) (told : List Bits) →
    KeepsValues c plan outside values → AreToldInPlain plan outside p told →
    AreCut (asked (Some (record { 0 = p })) (mixed_table.outputs_of c)) (joined_bits told)
    (outputs_to p (told_of c values))

-- and of one in Bristol Fashion
abbrev pub BristolOutputsAreTold : Type 0
BristolOutputsAreTold =
    (c : bristol.Circuit) (plan : Gates) (outside : Outside) (inputs : List (List Bool)) (wires : List Bool)
    (outputs : List Told) (p : ℕ) (told : List Bits) →
    KeepsBristol c plan → outside.inputs ≡ map number inputs → bristol_table.HaveInputWidths c inputs →
    AreWireBits c inputs wires → AreCut (bristol_table.outputs_of c) (output_bits c wires) outputs →
    AreToldInPlain plan outside p told →
    AreCut (asked (Some (record { 0 = p })) (bristol_table.outputs_of c)) (joined_bits told)
    (outputs_to p outputs)
