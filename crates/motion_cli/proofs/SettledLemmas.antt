-- What the words and the files of a call settle.
use Rattle.std.proofs.Common.{ℕ, ◌≡◌, ◌<◌, ◌⊎◌, inl, inr, Bool, List, [], length, Option, Some, None, sym, ap, subst, ◌∙◌}
use Rattle.std.specs.Prelude.{codes, map, true, false, ◌++◌}
use Rattle.std.specs.Fmt.{decimal}
use Rattle.mot_base.specs.Files.{Holding}
use Rattle.mot_base.specs.Limits.{most_file_bytes}
use Rattle.share_types.specs.Bits.{number}
use Rattle.text_lines.specs.Text.{Text, lines as lines_of}
use Rattle.text_lines.proofs.ReaderLemmas.{reads_or_faults}
use Rattle.circuit_values.specs.declared.cause.ValuesCause.{ValuesCause}
use Rattle.circuit_tables.specs.Table.{Told, AreCut}
use Rattle.circuit_tables.proofs.CutLemmas.{cuts_once}
use Rattle.circuit_values.specs.Values as values
use Rattle.mixed_circuit.specs.declared.cause.CircuitCause.{CircuitCause}
use Rattle.mixed_circuit.specs.declared.read.Stage.{Stage}
use Rattle.mixed_language.specs.Circuit as mixed
use Rattle.mixed_circuit.specs.Grammar.{circuits}
use Rattle.mixed_language.specs.Eval.{told_of}
use Rattle.mixed_language.proofs.EvalLemmas.{evaluates_once}
use Rattle.bristol_reader.specs.declared.cause.BristolCause.{BristolCause}
use Rattle.bristol_reader.specs.Circuit as bristol
use Rattle.bristol_reader.specs.Table as bristol_table
use Rattle.bristol_reader.specs.Eval as bristol_eval
use Rattle.bristol_reader.specs.Grammar as bristol_text
use Rattle.bristol_reader.proofs.EvalLemmas.{same_outputs}
use Rattle.bristol_reader.proofs.ReadCircuitLemmas.{reads_circuit}
use Rattle.command_ends.specs.declared.fault.CircuitFault.{CircuitFault}
use Rattle.command_ends.specs.declared.fault.CircuitFault.TheVariants as fault
use Rattle.plan_gates.specs.Plan.{has_keys}
use Rattle.motion_cli.specs.Commands.{ReadsCircuit, ReadsInputs, Reports, HasTooMany, gates_refused, UnlessKeyed, PlainReads, NeedsReads, DealEnds, LocalReads, LocalTexts, RequestEnds, request_files}
use Rattle.command_ends.proofs.AnswerLemmas.{IsSettled}
use Rattle.command_ends.specs.Outcome.{Outcome, file_refused, circuit_refused, values_refused, reported, at_line, line, part_name}
use Rattle.motion_cli.specs.Parts.{part_files, part_length, deal_files, deal_id, dealt_line}
use Rattle.command_ends.specs.Refusal.{circuit_cause, values_cause}
use Rattle.any_circuit.specs.Circuits.{Circuit, Mixed, InBristol, Reads, FirstFault, inputs_of, parties_of, gates_of, plan_of, IsPlain, notation_of}
use Rattle.motion_cli.specs.Report.{output_lines, needs_report}
use Rattle.motion_cli.specs.Run.{AreSound, owns_in}
use Rattle.motion_cli.specs.Dealer.{part_names}
use Rattle.cli_words.specs.Request.{Request, Bristol, PlainRequest, NeedsRequest, DealRequest, LocalRequest, plain, needs, deal, local}
use Rattle.motion_cli.specs.Words.{AsksFor}
use Rattle.motion_cli.proofs.PartsLemmas.{stored_files}
use Rattle.command_ends.proofs.StepLemmas.{Agree, Fair, Refuses, Gives, carried, refuses_so, file_refuses, circuit_refuses, values_refuses, one_fault, loads_agree, loads_fair, reads_agree, reads_fair, unless_agree, unless_fair, stores_agree, stores_fair}
use Rattle.motion_cli.proofs.LocalLemmas.{all_agree, all_fair, parts_agree, parts_fair, run_agree, run_fair}
use Rattle.motion_cli.proofs.WordsLemmas.{asked_once}
use Rattle.command_ends.specs.Steps.{Fault, Loads, StoresAll, LoadsBoth}

-- The commands.

pub gates_refuses : (name : Text) (c : Circuit) → Refuses [] (gates_refused name c)
gates_refuses name c = circuit_refuses [] name (codes "gates " ++ line (decimal (gates_of c)))

-- the outputs of the plain evaluation of a circuit that was read
plain_is_one : (b : Option Bristol) (text : Text) (c : Circuit) (v : List (List Bool)) (o p : List Told) → Reads b text c →
    IsPlain c v o → IsPlain c v p → o ≡ p
plain_is_one None text (Mixed c) v o p reads m n =
    let same = evaluates_once c.statements (map number v) m.values n.values m.evaluated n.evaluated in
    m.told ∙ (ap (told_of c) same ∙ sym n.told)
plain_is_one (Some b) text (Mixed c) v o p reads m n = absurd reads
plain_is_one None text (InBristol w c) v o p reads m n = absurd reads
plain_is_one (Some b) text (InBristol w c) v o p reads m n =
    let same = same_outputs c v m.bits n.bits (reads_circuit text c reads.1) m.wires n.wires in
    cuts_once (bristol_table.outputs_of c) (bristol_eval.output_bits c n.bits) o p
    (subst (λ (bits : List Bool). AreCut (bristol_table.outputs_of c) bits o) same m.told) n.told

reports_agree : (b : Option Bristol) (text : Text) (c : Circuit) → Reads b text c → (v : List (List Bool)) (shown : List Told → Text) →
    Agree (Reports c v shown) (Reports c v shown)
reports_agree b text c reads v shown x y m n =
    let outputs = plain_is_one b text c v m.0 n.0 reads m.1 n.1 in
    m.2 ∙ (ap (λ o. reported (shown o)) outputs ∙ sym n.2)

reports_fair : (c : Circuit) (v : List (List Bool)) (text : List Told → Text) → Fair [] (Reports c v text) (Reports c v text)
reports_fair c v text x m = inr (record {
  kind = ap (λ (o : Outcome). o.kind) m.2;
  status = ap (λ (o : Outcome). o.status) m.2;
  stored = ap (λ (o : Outcome). o.stored) m.2;
  torn = ap (λ (o : Outcome). o.torn) m.2;
  fair = m;
})

abbrev circuit_fault : Text → Fault CircuitFault → Outcome
circuit_fault name f = circuit_refused name (at_line f.line (circuit_cause f.cause))

abbrev values_fault : Text → Fault ValuesCause → Outcome
values_fault name f = values_refused name (at_line f.line (values_cause f.cause))

-- of a text, in the language that the words say, one thing is the case

fault_is_one : (b : Option Bristol) (text : Text) (line other : ℕ) (cause another : CircuitFault) → FirstFault b text line cause →
    FirstFault b text other another → (line ≡ other) × (cause ≡ another)
fault_is_one None text line other (fault.Mixed c) (fault.Mixed d) m n =
    let both = (reads_or_faults Stage mixed.Circuit CircuitCause circuits text).one_fault line other c d m n in
    (both.0, ap fault.Mixed both.1)
fault_is_one None text line other (fault.Bristol c) another m n = absurd m
fault_is_one None text line other (fault.Mixed c) (fault.Bristol d) m n = absurd n
fault_is_one (Some b) text line other (fault.Bristol c) (fault.Bristol d) m n =
    let both = (reads_or_faults bristol_text.Known bristol.Circuit BristolCause (bristol_text.circuits (length (lines_of text))) text).one_fault line other c d m n in
    (both.0, ap fault.Bristol both.1)
fault_is_one (Some b) text line other (fault.Mixed c) another m n = absurd m
fault_is_one (Some b) text line other (fault.Bristol c) (fault.Mixed d) m n = absurd n

reading_is_one : (b : Option Bristol) (text : Text) (c d : Circuit) → Reads b text c → Reads b text d → c ≡ d
reading_is_one None text (Mixed c) (Mixed d) m n = ap Mixed ((reads_or_faults Stage mixed.Circuit CircuitCause circuits text).one_value c d m n)
reading_is_one None text (InBristol v c) d m n = absurd m
reading_is_one None text (Mixed c) (InBristol w d) m n = absurd n
reading_is_one (Some b) text (InBristol v c) (InBristol w d) m n =
    let same = (reads_or_faults bristol_text.Known bristol.Circuit BristolCause (bristol_text.circuits (length (lines_of text))) text).one_value c d m.1 n.1 in
    ap (λ (u : Bristol). InBristol u c) (m.0 ∙ sym n.0) ∙ ap (InBristol w) same
reading_is_one (Some b) text (Mixed c) d m n = absurd m
reading_is_one (Some b) text (InBristol v c) (Mixed d) m n = absurd n

faulty_or_read : (b : Option Bristol) (text : Text) (c : Circuit) (line : ℕ) (cause : CircuitFault) → Reads b text c → FirstFault b text line cause → ⊥
faulty_or_read None text (Mixed c) line (fault.Mixed cause) m n =
    (reads_or_faults Stage mixed.Circuit CircuitCause circuits text).not_both c line cause m n
faulty_or_read None text (InBristol v c) line cause m n = m
faulty_or_read None text (Mixed c) line (fault.Bristol cause) m n = n
faulty_or_read (Some b) text (InBristol v c) line (fault.Bristol cause) m n =
    (reads_or_faults bristol_text.Known bristol.Circuit BristolCause (bristol_text.circuits (length (lines_of text))) text).not_both c line cause m.1 n
faulty_or_read (Some b) text (Mixed c) line cause m n = m
faulty_or_read (Some b) text (InBristol v c) line (fault.Mixed cause) m n = n

circuit_agree : (b : Option Bristol) (name text : Text) (P Q : Circuit → Outcome → Type 0) →
    ((c : Circuit) → Reads b text c → Agree (P c) (Q c)) → Agree (ReadsCircuit b name text P) (ReadsCircuit b name text Q)
circuit_agree b name text P Q next x y (inl m) (inl n) =
    let both = fault_is_one b text m.0.line n.0.line m.0.cause n.0.cause m.1 n.1 in
    m.2 ∙ (ap (circuit_fault name) (one_fault m.0 n.0 both.0 both.1) ∙ sym n.2)
circuit_agree b name text P Q next x y (inl m) (inr n) = absurd (faulty_or_read b text n.0 m.0.line m.0.cause n.1 m.1)
circuit_agree b name text P Q next x y (inr m) (inl n) = absurd (faulty_or_read b text m.0 n.0.line n.0.cause m.1 n.1)
circuit_agree b name text P Q next x y (inr m) (inr n) =
    let same = reading_is_one b text m.0 n.0 m.1 n.1 in
    next n.0 n.1 x y (subst (λ (c : Circuit). P c x) same m.2) n.2

circuit_fair : (b : Option Bristol) (name text : Text) (P Q : Circuit → Outcome → Type 0) → ((c : Circuit) → Fair [] (P c) (Q c)) →
    Fair [] (ReadsCircuit b name text P) (ReadsCircuit b name text Q)
circuit_fair b name text P Q next =
    reads_fair [] (λ (f : Fault CircuitFault). FirstFault b text f.line f.cause) (circuit_fault name) (Reads b text) P Q
    (λ f. circuit_refuses [] name (at_line f.line (circuit_cause f.cause))) next

inputs_agree : (name : Text) (c : Circuit) (text : Text) (P Q : List (List Bool) → Outcome → Type 0) →
    ((v : List (List Bool)) → Agree (P v) (Q v)) → Agree (ReadsInputs name c text P) (ReadsInputs name c text Q)
inputs_agree name c text P Q next =
    reads_agree (List (Option (List Bool))) (List (List Bool)) ValuesCause (values.values (inputs_of c) None) text
    (values_fault name) P Q next

inputs_fair : (name : Text) (c : Circuit) (text : Text) (P Q : List (List Bool) → Outcome → Type 0) →
    ((v : List (List Bool)) → Fair [] (P v) (Q v)) → Fair [] (ReadsInputs name c text P) (ReadsInputs name c text Q)
inputs_fair name c text P Q next =
    reads_fair [] (λ (f : Fault ValuesCause). values.FirstFault (inputs_of c) None text f.line f.cause) (values_fault name)
    (values.ReadsValues (inputs_of c) None text) P Q
    (λ f. values_refuses [] name (at_line f.line (values_cause f.cause))) next

both_agree : (held : Holding) (rose : Type 0) (first second : Text) (P Q : Text → Text → Outcome → Type 0) → ¬ rose →
    ((c v : Text) → Agree (P c v) (Q c v)) →
    Agree (LoadsBoth (Some held) rose first second P) (LoadsBoth (Some held) ⊥ first second Q)
both_agree held rose first second P Q quiet next =
    loads_agree held rose ⊥ first (λ c. Loads (Some held) rose second (λ v. P c v)) (λ c. Loads (Some held) ⊥ second (λ v. Q c v))
    quiet (λ x. x)
    (λ c. loads_agree held rose ⊥ second (P c) (Q c) quiet (λ x. x) (next c))

both_fair : (told : Option Holding) (rose : Type 0) (first second : Text) (P Q : Text → Text → Outcome → Type 0) →
    ((c v : Text) → Fair [] (P c v) (Q c v)) → Fair [] (LoadsBoth told rose first second P) (LoadsBoth told ⊥ first second Q)
both_fair told rose first second P Q next =
    loads_fair [] told rose first (λ c. Loads told rose second (λ v. P c v)) (λ c. Loads told ⊥ second (λ v. Q c v))
    (λ c. loads_fair [] told rose second (P c) (Q c) (next c))

plain_agree : (request : PlainRequest) (circuit values : Text) → Agree (PlainReads request circuit values) (PlainReads request circuit values)
plain_agree request circuit values = circuit_agree request.bristol request.circuit circuit _ _
    (λ c reads. unless_agree (HasTooMany c) (gates_refused request.circuit c) _ _
    (inputs_agree request.values c values _ _
    (λ v. reports_agree request.bristol circuit c reads v (output_lines (notation_of c)))))

plain_fair : (request : PlainRequest) (circuit values : Text) → Fair [] (PlainReads request circuit values) (PlainReads request circuit values)
plain_fair request circuit values = circuit_fair request.bristol request.circuit circuit _ _
    (λ c. unless_fair [] (HasTooMany c) (gates_refused request.circuit c) _ _ (gates_refuses request.circuit c)
    (inputs_fair request.values c values _ _ (λ v. reports_fair c v (output_lines (notation_of c)))))

says_agree : (o : Outcome) → Agree (λ end. end ≡ o) (λ end. end ≡ o)
says_agree o x y m n = m ∙ sym n

says_fair : (text : Text) → Fair [] (λ end. end ≡ reported text) (λ end. end ≡ reported text)
says_fair text x m = inr (record {
  kind = ap (λ (o : Outcome). o.kind) m;
  status = ap (λ (o : Outcome). o.status) m;
  stored = ap (λ (o : Outcome). o.stored) m;
  torn = ap (λ (o : Outcome). o.torn) m;
  fair = m;
})

keyed_agree : (name : Text) (c : Circuit) (P Q : Outcome → Type 0) → Agree P Q → Agree (UnlessKeyed name c P) (UnlessKeyed name c Q)
keyed_agree name c P Q next =
    unless_agree (has_keys (plan_of c) ≡ true) (circuit_refused name (line (codes "not built"))) P Q next

keyed_fair : (name : Text) (c : Circuit) (P Q : Outcome → Type 0) → Fair [] P Q → Fair [] (UnlessKeyed name c P) (UnlessKeyed name c Q)
keyed_fair name c P Q next =
    unless_fair [] (has_keys (plan_of c) ≡ true) (circuit_refused name (line (codes "not built"))) P Q
    (circuit_refuses [] name (line (codes "not built"))) next

needs_agree : (request : NeedsRequest) (circuit : Text) → Agree (NeedsReads request circuit) (NeedsReads request circuit)
needs_agree request circuit = circuit_agree request.bristol request.circuit circuit _ _
    (λ c reads. unless_agree (HasTooMany c) (gates_refused request.circuit c) _ _ (says_agree (reported (needs_report (plan_of c)))))

needs_fair : (request : NeedsRequest) (circuit : Text) → Fair [] (NeedsReads request circuit) (NeedsReads request circuit)
needs_fair request circuit = circuit_fair request.bristol request.circuit circuit _ _
    (λ c. unless_fair [] (HasTooMany c) (gates_refused request.circuit c) _ _ (gates_refuses request.circuit c) (says_fair (needs_report (plan_of c))))

local_agree : (request : LocalRequest) (values : Text) (c : Circuit) (files : List Text) →
    Agree (LocalReads request values c files) (LocalReads request values c files)
local_agree request values c files =
    unless_agree (HasTooMany c) (gates_refused request.circuit c) _ _
    (keyed_agree request.circuit c _ _
    (inputs_agree request.values c values _ _
    (λ v. parts_agree request c files _ _
    (λ parts. run_agree (AreSound request.dealer parts) c v (owns_in request c v parts)))))

local_fair : (request : LocalRequest) (values : Text) (c : Circuit) (files : List Text) →
    Fair [] (LocalReads request values c files) (LocalReads request values c files)
local_fair request values c files =
    unless_fair [] (HasTooMany c) (gates_refused request.circuit c) _ _ (gates_refuses request.circuit c)
    (keyed_fair request.circuit c _ _
    (inputs_fair request.values c values _ _
    (λ v. parts_fair request c files _ _
    (λ parts. run_fair (AreSound request.dealer parts) c v (owns_in request c v parts)))))

deal_agree : (told : Option Holding) (rose : Type 0) (r : DealRequest) → ¬ rose → Agree (DealEnds told rose r) (DealEnds told ⊥ r)
deal_agree told rose r quiet =
    unless_agree (most_file_bytes < part_length r) (file_refused (part_name r.prefix 0) (codes "too long")) _ _
    (stores_agree (part_files r) (reported (dealt_line r.parties (deal_id r))) rose ⊥ quiet (λ x. x))

deal_fair : (told : Option Holding) (rose : Type 0) (r : DealRequest) → Fair (deal_files r) (DealEnds told rose r) (DealEnds told ⊥ r)
deal_fair told rose r x (inl m) =
    refuses_so (deal_files r) (DealEnds told ⊥ r) x (file_refused (part_name r.prefix 0) (codes "too long")) m.1
    (file_refuses (deal_files r) (part_name r.prefix 0) (codes "too long"))
deal_fair told rose r x (inr m) =
    let text = dealt_line r.parties (deal_id r) in
    subst (λ files. Refuses files x ⊎ Gives files (DealEnds told ⊥ r) x) (sym (stored_files r m.0))
    (carried (part_files r) (StoresAll ⊥ (part_files r) (reported text)) (DealEnds told ⊥ r) x (λ q. inr (m.0, q))
    (stores_fair (part_files r) text rose x m.1))

request_agree : (held : Holding) (rose : Type 0) (r : Request) → ¬ rose → Agree (RequestEnds (Some held) rose r) (RequestEnds (Some held) ⊥ r)
request_agree held rose (plain r) quiet = both_agree held rose r.circuit r.values (PlainReads r) (PlainReads r) quiet (plain_agree r)
request_agree held rose (deal r) quiet = deal_agree (Some held) rose r quiet
request_agree held rose (local r) quiet =
    both_agree held rose r.circuit r.values (LocalTexts (Some held) rose r) (LocalTexts (Some held) ⊥ r) quiet
    (λ circuit values. circuit_agree r.bristol r.circuit circuit _ _
    (λ c reads. all_agree held rose ⊥ (part_names r.dealer (parties_of c)) (LocalReads r values c) (LocalReads r values c) quiet (λ x. x)
    (local_agree r values c)))
request_agree held rose (needs r) quiet =
    loads_agree held rose ⊥ r.circuit (NeedsReads r) (NeedsReads r) quiet (λ x. x) (needs_agree r)

request_fair : (told : Option Holding) (rose : Type 0) (r : Request) →
    Fair (request_files r) (RequestEnds told rose r) (RequestEnds told ⊥ r)
request_fair told rose (plain r) = both_fair told rose r.circuit r.values (PlainReads r) (PlainReads r) (plain_fair r)
request_fair told rose (deal r) = deal_fair told rose r
request_fair told rose (local r) =
    both_fair told rose r.circuit r.values (LocalTexts told rose r) (LocalTexts told ⊥ r)
    (λ circuit values. circuit_fair r.bristol r.circuit circuit _ _
    (λ c. all_fair told rose (part_names r.dealer (parties_of c)) (LocalReads r values c) (LocalReads r values c) (local_fair r values c)))
request_fair told rose (needs r) = loads_fair [] told rose r.circuit (NeedsReads r) (NeedsReads r) (needs_fair r)

pub request_settled : (words : List Text) → IsSettled (AsksFor words) RequestEnds request_files
request_settled words = record { one = asked_once words; agree = request_agree; fair = request_fair }
