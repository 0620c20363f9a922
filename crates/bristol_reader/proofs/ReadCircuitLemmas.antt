-- What a text reads as is a circuit: its headers are in order, each gate fits behind those before it, and each output
-- wire is an input or set.
use Rattle.std.proofs.Common.{ℕ, ◌≡◌, ◌<◌, ◌≤◌, ◌+◌, ◌-◌, Bool, true, false, not, ◌&&◌, ◌||◌, nat_lt, List, [], ◌∷◌, ◌++◌, length, Some, Ok, Err, cond, refl, sym, ◌∙◌, ap, subst, arith}
use Rattle.std.specs.Prelude.{◌==◌, nat_le, sum}
use Rattle.std.specs.List.{list_all}
use Rattle.std.proofs.lemmas.Bool.{and_parts, leb-true, ltb-true, eq-eqb}
use Rattle.std.proofs.lemmas.List.{length-append}
use Rattle.std.proofs.lemmas.Option.{cond_some}
use Rattle.mot_base.specs.Limits.{most_statements, most_wires}
use Rattle.bristol_reader.specs.declared.stage.Stage.{Stage}
use Rattle.bristol_reader.specs.declared.stage.Stage.TheVariants.{Start, Sized, Entered, Body}
use Rattle.bristol_reader.specs.declared.cause.BristolCause.TheVariants.{NotText, Header, TooMany, Counts, GateName, Arity, SetTwice, Leftover, OutputUnset}
use Rattle.bristol_reader.specs.declared.kind.BristolKind.{BristolKind}
use Rattle.bristol_reader.specs.Circuit.{Gate, Circuit, Sizes, Heading, Progress, no_gates, more_gates, are_outputs_set}
use Rattle.bristol_reader.specs.Kinds.{kind_of}
use Rattle.bristol_reader.specs.Line.{numbers_of, gate_used, are_outs_new, added, adds_numbers, last_word, front_words, adds}
use Rattle.bristol_reader.specs.Built.{are_positive, FitsBehind, IsBuilt, IsCircuit}
use Rattle.bristol_reader.specs.Grammar.{Known, circuits, sizes_of, are_few, sizes_in, sizes_said, widths_of, widths_in, widths_said, ended, behind_blank, behind_words, behind_content, behind_line, behind, circuit_of, IsDone, Reads}
use Rattle.bristol_reader.proofs.BuiltLemmas.{built_more}
use Rattle.bristol_reader.proofs.LastLemmas.{line_done}
use Rattle.bristol_reader.proofs.ReadLemmas.{known}
use Rattle.bristol_reader.proofs.UsedLemmas.{used_facts}
use Rattle.text_lines.specs.LineReader.{Lead}
use Rattle.text_lines.specs.Text.{Text, lines, is_allowed, words}
use Rattle.text_lines.specs.Chain.{or_cause, unless}
use Rattle.text_lines.proofs.ChainLemmas.{ok_then, or_some, unless_true}

-- ---- what holds behind some lines

abbrev AreFew : Sizes → Type 0
AreFew sizes = (sizes.gates ≤ most_statements) × (sizes.wires ≤ most_wires)

abbrev AreWidths : ℕ → List ℕ → Type 0
AreWidths wires widths = (are_positive widths ≡ true) × (sum widths ≤ wires)

abbrev IsProgress : Progress → Type 0
IsProgress p = IsBuilt p.circuit × (p.stated ≤ most_statements) × (length p.circuit.gates ≤ p.stated)

abbrev Holds : Stage → Type 0
Holds Start = Unit {0}
Holds (Sized sizes) = AreFew sizes
Holds (Entered h) = AreFew h.sizes × AreWidths h.sizes.wires h.inputs
Holds (Body p) = IsProgress p

-- ---- the headers

few_sizes : (ends : Bool) (ns : List ℕ) (s : Sizes) → sizes_in ends ns ≡ Ok s → AreFew s
unfolding sizes_in
few_sizes ends ns s h =
    let one = ok_then (or_cause Header (sizes_of ns)) _ s h in
    let two = ok_then (unless Header (not ends)) _ s one.2 in
    let three = ok_then (unless TooMany (are_few one.0)) _ s two.2 in
    let few = and_parts (nat_le one.0.gates most_statements) (nat_le one.0.wires most_wires) (unless_true TooMany _ three.0 three.1) in
    let same : one.0 ≡ s = (let e = three.2 in cc) in
    subst AreFew same (leb-true _ _ few.0, leb-true _ _ few.1)

sizes_are_few : (ends : Bool) (ws : List Text) (s : Sizes) → sizes_said ends ws ≡ Ok s → AreFew s
unfolding sizes_said
sizes_are_few ends ws s h =
    let one = ok_then (or_cause Header (numbers_of ws)) _ s h in
    few_sizes ends one.0 s one.2

stated_widths : (ns widths : List ℕ) → widths_of ns ≡ Some widths → are_positive widths ≡ true
stated_widths [] widths h = cc
stated_widths (count ∷ ns) widths h =
    let found = cond_some (length ns == count && list_all (λ width. nat_le 1 width) ns) ns widths h in
    subst (λ (ws : List ℕ). are_positive ws ≡ true) found.1 (and_parts (length ns == count) (list_all (λ width. nat_le 1 width) ns) found.0).1

few_widths : (ends : Bool) (wires : ℕ) (ns widths : List ℕ) → widths_in ends wires ns ≡ Ok widths → AreWidths wires widths
unfolding widths_in
few_widths ends wires ns widths h =
    let one = ok_then (or_cause Header (widths_of ns)) _ widths h in
    let two = ok_then (unless Header (not ends)) _ widths one.2 in
    let three = ok_then (unless Counts (nat_le (sum one.0) wires)) _ widths two.2 in
    let same : one.0 ≡ widths = (let e = three.2 in cc) in
    subst (AreWidths wires) same (stated_widths ns one.0 (or_some Header _ one.0 one.1), leb-true _ _ (unless_true Counts _ three.0 three.1))

widths_fit : (ends : Bool) (wires : ℕ) (ws : List Text) (widths : List ℕ) → widths_said ends wires ws ≡ Ok widths → AreWidths wires widths
unfolding widths_said
widths_fit ends wires ws widths h =
    let one = ok_then (or_cause Header (numbers_of ws)) _ widths h in
    few_widths ends wires one.0 widths one.2

-- ---- gates

one_gate : (p next : Progress) (g : Gate) → added p g ≡ Ok next → (are_outs_new p.circuit g.outs ≡ true) × (more_gates p g ≡ next)
unfolding added
one_gate p next g h =
    let one = ok_then (unless SetTwice (are_outs_new p.circuit g.outs)) _ next h in
    (unless_true SetTwice _ one.0 one.1, (let e = one.2 in cc))

gate_read : (p next : Progress) (kind : BristolKind) (ns : List ℕ) → adds_numbers p kind ns ≡ Ok next → IsProgress p →
    length p.circuit.gates < p.stated → IsProgress next
unfolding adds_numbers
gate_read p next kind ns h is room =
    let one = ok_then (gate_used p.circuit kind ns) _ next h in
    let facts = used_facts p.circuit kind ns one.0 one.1 in
    let two = one_gate p next one.0 one.2 in
    let few = is.1 in
    let fits : FitsBehind p.circuit one.0 = record { arity = facts.arity; range = facts.range; used = facts.used; once = two.0 } in
    let count : length (p.circuit.gates ++ one.0 ∷ []) ≡ length p.circuit.gates + 1 = length-append p.circuit.gates (one.0 ∷ []) ∙ omega arith in
    subst IsProgress two.1 (built_more p.circuit one.0 is.0 (omega arith) fits, is.1, omega arith)

gate_added : (p next : Progress) (ws : List Text) → adds p ws ≡ Ok next → IsProgress p → length p.circuit.gates < p.stated → IsProgress next
unfolding adds
gate_added p next ws h is room =
    let one = ok_then (or_cause GateName (kind_of (last_word ws))) _ next h in
    let two = ok_then (or_cause Arity (numbers_of (front_words ws))) _ next one.2 in
    gate_read p next one.0 two.0 two.2 is room

-- ---- lines

behind_ended : (last : Bool) (p : Progress) (s : Stage) → ended last p ≡ Ok s → IsProgress p → Holds s
unfolding ended
behind_ended last p s h is =
    let one = ok_then (unless Counts (not last || nat_le p.stated (length p.circuit.gates))) _ s h in
    let two = ok_then (unless OutputUnset (not last || are_outputs_set p.circuit)) _ s one.2 in
    let same : Body p ≡ s = (let e = two.2 in cc) in
    subst Holds same is

goes_on : (last : Bool) (stage s : Stage) → cond last (Err Header) (Ok stage) ≡ Ok s → Holds stage → Holds s
goes_on true stage s h is = cc
goes_on false stage s h is = (let same : stage ≡ s = cc in subst Holds same is)

behind_no_words : (last : Bool) (stage s : Stage) → behind_blank last stage ≡ Ok s → Holds stage → Holds s
behind_no_words last Start s h is = goes_on last Start s h is
behind_no_words last (Sized x) s h is = goes_on last (Sized x) s h is
behind_no_words last (Entered x) s h is = goes_on last (Entered x) s h is
behind_no_words last (Body p) s h is = behind_ended last p s h is

begun : (h : Heading) (outputs : List ℕ) → AreFew h.sizes → AreWidths h.sizes.wires h.inputs → AreWidths h.sizes.wires outputs →
    IsProgress (no_gates h outputs)
begun h outputs few ins outs = (
  record {
    few_gates = omega arith;
    few_wires = few.1;
    input_widths = ins.0;
    few_inputs = ins.1;
    output_widths = outs.0;
    few_outputs = outs.1;
    each = λ at g there. cc;
  },
  few.0,
  omega arith,
)

behind_some_words : (last : Bool) (stage s : Stage) (ws : List Text) → behind_words last stage ws ≡ Ok s → Holds stage → Holds s
unfolding behind_words
behind_some_words last Start s ws h is =
    let one = ok_then (sizes_said last ws) _ s h in
    let same : Sized one.0 ≡ s = (let e = one.2 in cc) in
    subst Holds same (sizes_are_few last ws one.0 one.1)
behind_some_words last (Sized x) s ws h is =
    let one = ok_then (widths_said last x.wires ws) _ s h in
    let same : Entered (record { sizes = x; inputs = one.0 }) ≡ s = (let e = one.2 in cc) in
    subst Holds same (is, widths_fit last x.wires ws one.0 one.1)
behind_some_words last (Entered x) s ws h is =
    let one = ok_then (widths_said false x.sizes.wires ws) _ s h in
    behind_ended last (no_gates x one.0) s one.2 (begun x one.0 is.0 is.1 (widths_fit false x.sizes.wires ws one.0 one.1))
behind_some_words last (Body p) s ws h is =
    let one = ok_then (unless Counts (not last || nat_le p.stated (length p.circuit.gates + 1))) _ s h in
    let two = ok_then (unless Leftover (nat_lt (length p.circuit.gates) p.stated)) _ s one.2 in
    let three = ok_then (adds p ws) _ s two.2 in
    let room = ltb-true _ _ (unless_true Leftover _ two.0 two.1) in
    behind_ended last three.0 s three.2 (gate_added p three.0 ws three.1 is room)

behind_all_words : (last : Bool) (stage s : Stage) (ws : List Text) → behind_content last stage ws ≡ Ok s → Holds stage → Holds s
behind_all_words last stage s [] h is = behind_no_words last stage s h is
behind_all_words last stage s (w ∷ ws) h is = behind_some_words last stage s (w ∷ ws) h is

behind_a_line : (last : Bool) (stage s : Stage) (line : Text) → behind_line last stage line ≡ Ok s → Holds stage → Holds s
unfolding behind_line
behind_a_line last stage s line h is =
    let one = ok_then (unless NotText (list_all is_allowed line)) _ s h in
    behind_all_words last stage s (words line) one.2 is

-- ---- texts

abbrev Ends : Stage → Type 0
Ends stage = Holds stage × IsDone stage

step : (k next : Known) (line : Text) → behind k line ≡ Ok next → Holds k.stage →
    (next.left ≡ k.left - 1) × Holds next.stage × (k.left ≡ 1 → IsDone next.stage)
unfolding behind
step k next line h is =
    let one = ok_then (behind_line (k.left == 1) k.stage line) _ next h in
    let same : known (k.left - 1) one.0 ≡ next = (let e = one.2 in cc) in
    let done : k.left ≡ 1 → IsDone one.0 = λ e.
    let last : behind_line true k.stage line ≡ Ok one.0 = ap (λ (b : Bool). behind_line b k.stage line) (sym (eq-eqb k.left 1 e)) ∙ one.1 in
    line_done k.stage one.0 line last in
    let P : Known → Type 0 = λ n. (n.left ≡ k.left - 1) × Holds n.stage × (k.left ≡ 1 → IsDone n.stage) in
    subst P same (refl, behind_a_line (k.left == 1) k.stage one.0 line one.1 is, done)

led : (count : ℕ) (ls : List Text) (line : Text) (k end : Known) → k.left ≡ length (line ∷ ls) → Holds k.stage →
    Lead (circuits count) k (line ∷ ls) end → Ends end.stage
led count [] line k end left is lead =
    let next = step k lead.0 line lead.1 is in
    let same : lead.0 ≡ end = lead.2 in
    let one : k.left ≡ 1 = left ∙ omega arith in
    let P : Known → Type 0 = λ n. Ends n.stage in
    subst P same (next.1, next.2 one)
led count (more ∷ ls) line k end left is lead =
    let next = step k lead.0 line lead.1 is in
    let fewer = next.0 in
    led count ls more lead.0 end (omega arith) next.1 lead.2

ended_circuit : (stage : Stage) (c : Circuit) → Ends stage → circuit_of stage ≡ Ok c → IsCircuit c
ended_circuit Start c ends h = absurd ends.1
ended_circuit (Sized x) c ends h = absurd ends.1
ended_circuit (Entered x) c ends h = absurd ends.1
ended_circuit (Body p) c ends h =
    let same : p.circuit ≡ c = cc in
    subst IsCircuit same (record { built = ends.0.0; set = ends.1 })

read_all : (count : ℕ) (ls : List Text) (end : Known) (c : Circuit) → count ≡ length ls → Lead (circuits count) (known count Start) ls end →
    circuit_of end.stage ≡ Ok c → IsCircuit c
read_all count [] end c all lead h =
    let none : circuit_of Start ≡ Ok c = ap (λ (k : Known). circuit_of k.stage) lead ∙ h in cc
read_all count (line ∷ ls) end c all lead h = ended_circuit end.stage c (led count ls line (known count Start) end all tt lead) h

pub reads_circuit : (text : Text) (c : Circuit) → Reads text c → IsCircuit c
reads_circuit text c reads = read_all (length (lines text)) (lines text) reads.end c refl reads.lead reads.whole
