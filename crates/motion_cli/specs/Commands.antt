-- What each command comes to: one composition of steps for each.
use Rattle.std.specs.Prelude.{◌≡◌, ◌<◌, ◌++◌, Bool, true, false, List, [], codes, Option, None}
use Rattle.mot_base.specs.Files.{Holding}
use Rattle.mot_base.specs.Limits.{most_file_bytes, most_gates}
use Rattle.std.specs.Fmt.{decimal}
use Rattle.cli_words.specs.Request.{Request, PlainRequest, NeedsRequest, DealRequest, LocalRequest, Bristol, plain, needs, deal, local}
use Rattle.circuit_values.specs.declared.cause.ValuesCause.{ValuesCause}
use Rattle.circuit_tables.specs.Table.{Told}
use Rattle.circuit_values.specs.Values as values
use Rattle.text_lines.specs.Text.{Text}
use Rattle.command_ends.specs.declared.fault.CircuitFault.{CircuitFault}
use Rattle.plan_gates.specs.Plan.{has_keys}
use Rattle.joint_run.specs.Party.{Own}
use Rattle.any_circuit.specs.Circuits.{Circuit, Reads, FirstFault, inputs_of, parties_of, gates_of, plan_of, IsPlain, notation_of}
use Rattle.motion_cli.specs.Dealer.{part_names, TakesParts}
use Rattle.command_ends.specs.Outcome.{Outcome, reported, line, at_line, part_name, file_refused, circuit_refused, values_refused}
use Rattle.motion_cli.specs.Parts.{part_files, part_length, deal_files, deal_id, dealt_line}
use Rattle.command_ends.specs.Refusal.{circuit_cause, values_cause}
use Rattle.motion_cli.specs.Report.{PartyRun, output_lines, runs_report, needs_report}
use Rattle.motion_cli.specs.Run.{AreRuns, TellPlainly, AreSound, owns_in}
use Rattle.command_ends.specs.Steps.{Fault, Loads, LoadsBoth, LoadsAll, ReadsAs, Unless, StoresAll}

-- the text of a file is read as a circuit, where the words say whether it is in Bristol Fashion
abbrev pub ReadsCircuit : Option Bristol → Text → Text → (Circuit → Outcome → Type 0) → Outcome → Type 0
ReadsCircuit bristol name text = ReadsAs {F = Fault CircuitFault} {C = Circuit}
    (λ f. FirstFault bristol text f.line f.cause)
    (λ f. circuit_refused name (at_line f.line (circuit_cause f.cause)))
    (Reads bristol text)

-- the text of a file is read as the values of all inputs of a circuit
abbrev pub ReadsInputs : Text → Circuit → Text → (List (List Bool) → Outcome → Type 0) → Outcome →
    Type 0
ReadsInputs name c text = ReadsAs {F = Fault ValuesCause} {C = List (List Bool)}
    (λ f. values.FirstFault (inputs_of c) None text f.line f.cause)
    (λ f. values_refused name (at_line f.line (values_cause f.cause)))
    (values.ReadsValues (inputs_of c) None text)

-- the outputs of the plain evaluation of a circuit on values are reported so
abbrev pub Reports : Circuit → List (List Bool) → (List Told → Text) → Outcome → Type 0
Reports c v text end = (outputs : List Told) × IsPlain c v outputs × (end ≡ reported (text outputs))

-- a circuit has too many gates
abbrev pub HasTooMany : Circuit → Type 0
HasTooMany c = most_gates < gates_of c

abbrev pub gates_refused : Text → Circuit → Outcome
gates_refused name c = circuit_refused name (codes "gates " ++ line (decimal (gates_of c)))

-- a circuit whose plan has gates of keys, which are not run yet
abbrev pub UnlessKeyed : Text → Circuit → (Outcome → Type 0) → Outcome → Type 0
UnlessKeyed name c next =
    Unless (has_keys (plan_of c) ≡ true) (circuit_refused name (line (codes "not built"))) next

-- `plain`, once both files are loaded: too many gates are told before the values
abbrev pub PlainReads : PlainRequest → Text → Text → Outcome → Type 0
PlainReads request circuit values =
    ReadsCircuit request.bristol request.circuit circuit (λ c.
    Unless (HasTooMany c) (gates_refused request.circuit c) (
    ReadsInputs request.values c values (λ v.
    Reports c v (output_lines (notation_of c)))))

-- `plain`: each output of the plain evaluation
abbrev pub PlainEnds : Option Holding → Type 0 → PlainRequest → Outcome → Type 0
PlainEnds told rose request = LoadsBoth told rose request.circuit request.values (PlainReads request)

-- `needs`, once the file is loaded: what the plan of the circuit needs
abbrev pub NeedsReads : NeedsRequest → Text → Outcome → Type 0
NeedsReads request circuit =
    ReadsCircuit request.bristol request.circuit circuit (λ c.
    Unless (HasTooMany c) (gates_refused request.circuit c) (λ end.
    end ≡ reported (needs_report (plan_of c))))

-- `needs`: how many gates a circuit has, and how many correlations of each kind they need
abbrev pub NeedsEnds : Option Holding → Type 0 → NeedsRequest → Outcome → Type 0
NeedsEnds told rose request = Loads told rose request.circuit (NeedsReads request)

-- the joint run of all parties is reported: for each party what it is told, and the digest of what it sent. With sound
-- parts each is told its outputs of the plain evaluation
abbrev pub ReportsRun : Type 0 → Circuit → List (List Bool) → List Own → Outcome → Type 0
ReportsRun sound c v owns end =
    (runs : List PartyRun) × AreRuns c owns runs
    × (sound → TellPlainly c v runs)
    × (end ≡ reported (runs_report (notation_of c) runs))

-- `local`, once the circuit is read and all files are loaded: the files of the parts are judged behind the values
abbrev pub LocalReads : LocalRequest → Text → Circuit → List Text → Outcome → Type 0
LocalReads request values c files =
    Unless (HasTooMany c) (gates_refused request.circuit c) (
    UnlessKeyed request.circuit c (
    ReadsInputs request.values c values (λ v.
    TakesParts request c files (λ parts.
    ReportsRun (AreSound request.dealer parts) c v (owns_in request c v parts)))))

-- `local`, once circuit and values are loaded: the circuit says how many files of parts there are
abbrev pub LocalTexts : Option Holding → Type 0 → LocalRequest → Text → Text → Outcome → Type 0
LocalTexts told rose request circuit values =
    ReadsCircuit request.bristol request.circuit circuit (λ c.
    LoadsAll told rose (part_names request.dealer (parties_of c)) (λ files.
    LocalReads request values c files))

-- `local`: a run of all parties
abbrev pub LocalEnds : Option Holding → Type 0 → LocalRequest → Outcome → Type 0
LocalEnds told rose request =
    LoadsBoth told rose request.circuit request.values (LocalTexts told rose request)

-- `deal`: parts that are too long are told by the name of the first, and else each party's part is stored
abbrev pub DealEnds : Option Holding → Type 0 → DealRequest → Outcome → Type 0
DealEnds told rose request =
    Unless (most_file_bytes < part_length request)
    (file_refused (part_name request.prefix 0) (codes "too long")) (
    StoresAll rose (part_files request) (reported (dealt_line request.parties (deal_id request))))

-- what a request comes to, of a command that is run
abbrev pub RequestEnds : Option Holding → Type 0 → Request → Outcome → Type 0
RequestEnds told rose (plain request) = PlainEnds told rose request
RequestEnds told rose (local request) = LocalEnds told rose request
RequestEnds told rose (deal request) = DealEnds told rose request
RequestEnds told rose (needs request) = NeedsEnds told rose request

-- the files that a request stores, in their order, each with its content
abbrev pub request_files : Request → List (Text × Text)
request_files (deal request) = deal_files request
request_files (plain request) = []
request_files (local request) = []
request_files (needs request) = []
