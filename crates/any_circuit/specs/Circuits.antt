-- A circuit of either language: a mixed one, or one in Bristol Fashion, whose words say how its wires are shared and
-- for how many parties.
use Rattle.std.specs.Prelude.{ℕ, ◌≡◌, ◌≤◌, Bool, true, List, filter, Option, Some, None}
use Rattle.mot_base.specs.Limits.{least_parties, most_parties}
use Rattle.cli_words.specs.Request.{Bristol, bristol_of}
use Rattle.circuit_tables.specs.Table.{Input, Output, Told}
use Rattle.mixed_language.specs.Circuit as mixed
use Rattle.mixed_circuit.specs.Grammar as mixed_text
use Rattle.mixed_language.specs.Table as mixed_table
use Rattle.mixed_language.specs.Eval as mixed_eval
use Rattle.mixed_language.specs.Valid as mixed_said
use Rattle.bristol_reader.specs.Circuit as bristol
use Rattle.bristol_reader.specs.Grammar as bristol_text
use Rattle.bristol_reader.specs.Table as bristol_table
use Rattle.bristol_reader.specs.Eval as bristol_eval
use Rattle.bristol_reader.specs.Built as bristol_built
use Rattle.plan_gates.specs.Plan.{Gates}
use Rattle.gate_plan.specs.Lowering.{all_gates, lowered}
use Rattle.gate_plan.specs.Keeps.{KeepsEvaluation}
use Rattle.gate_plan.specs.Bristol.{are_keys, all_bristol_gates, bristol_lowered, KeepsBristol}
use Rattle.share_types.specs.Wires.{includes}
use Rattle.text_lines.specs.Text.{Text}
use Rattle.any_circuit.specs.declared.circuit.Circuit.{Circuit as CircuitInMemory}
use Rattle.any_circuit.specs.declared.circuit.Circuit.TheVariants as code
use Rattle.command_ends.specs.declared.fault.CircuitFault.{CircuitFault}
use Rattle.command_ends.specs.declared.fault.CircuitFault.TheVariants as fault
use Rattle.any_circuit.specs.declared.circuit.ReadError.{ReadError}
use Rattle.any_circuit.specs.declared.circuit.ReadError.TheVariants.{At, NoMemory}
use Rattle.any_circuit.specs.declared.notation.Notation.{Notation}
use Rattle.any_circuit.specs.declared.notation.Notation.TheVariants.{Decimal, Hexadecimal}

pub data Circuit : Type 0 where
  Mixed : mixed.Circuit → Circuit
  InBristol : Bristol → bristol.Circuit → Circuit

-- what the code keeps of it
abbrev pub circuit_of : CircuitInMemory → Circuit
circuit_of (code.Mixed c) = Mixed c
circuit_of (code.Bristol c words) = InBristol (bristol_of words) c

-- a text reads as this circuit, where the words say which language it is in
abbrev pub Reads : Option Bristol → Text → Circuit → Type 0
Reads None text (Mixed c) = mixed_text.Reads text c
Reads (Some b) text (InBristol words c) = (words ≡ b) × bristol_text.Reads text c
Reads _ text _ = ⊥

-- the first line of a text that shows a cause, and the first cause of that line
abbrev pub FirstFault : Option Bristol → Text → ℕ → CircuitFault → Type 0
FirstFault None text line (fault.Mixed cause) = mixed_text.FirstFault text line cause
FirstFault (Some b) text line (fault.Bristol cause) = bristol_text.FirstFault text line cause
FirstFault _ text line _ = ⊥

-- an error is the first fault of a text, or memory ran out
abbrev pub IsFirstFault : Option Bristol → Text → ReadError → Type 0
IsFirstFault bristol text (At line cause) = FirstFault bristol text line cause
IsFirstFault bristol text NoMemory = Unit {0}

-- the input values of a circuit, with the party of each
abbrev pub inputs_of : Circuit → List Input
inputs_of (Mixed c) = mixed_table.inputs_of c.statements
inputs_of (InBristol b c) = bristol_table.inputs_of b.parties c

-- its outputs, with who is told each
abbrev pub outputs_of : Circuit → List Output
outputs_of (Mixed c) = mixed_table.outputs_of c
outputs_of (InBristol b c) = bristol_table.outputs_of c

-- how many parties it has
abbrev pub parties_of : Circuit → ℕ
parties_of (Mixed c) = c.parties
parties_of (InBristol b c) = b.parties

-- a circuit that was read is whole
abbrev pub IsWhole : Circuit → Type 0
IsWhole (Mixed c) = mixed_said.IsCircuit c
IsWhole (InBristol b c) = bristol_built.IsCircuit c × (least_parties ≤ b.parties) × (b.parties ≤ most_parties)

-- how many gates a circuit has
abbrev pub gates_of : Circuit → ℕ
gates_of (Mixed c) = all_gates c
gates_of (InBristol b c) = all_bristol_gates (are_keys b.sharing) c

-- the plan of a circuit
abbrev pub plan_of : Circuit → Gates
plan_of (Mixed c) = lowered c
plan_of (InBristol b c) = bristol_lowered (are_keys b.sharing) b.parties c

-- a plan keeps the plain evaluation of a circuit
abbrev pub Keeps : Circuit → Gates → Type 0
Keeps (Mixed c) plan = KeepsEvaluation c plan
Keeps (InBristol b c) plan = KeepsBristol c plan

-- outputs are those of the plain evaluation of a circuit on the bits of its input values
abbrev pub IsPlain : Circuit → List (List Bool) → List Told → Type 0
IsPlain (Mixed c) v outputs = mixed_eval.IsPlain c v outputs
IsPlain (InBristol b c) v outputs = bristol_eval.IsPlain c v outputs

-- how the values of its outputs are written
abbrev pub notation_of : Circuit → Notation
notation_of (Mixed c) = Decimal
notation_of (InBristol b c) = Hexadecimal

-- the outputs that a party is told
abbrev pub told_to : ℕ → List Told → List Told
told_to party outputs = filter (λ output. includes output.to party) outputs
