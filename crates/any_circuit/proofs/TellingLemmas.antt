-- That each circuit has a plain evaluation, and that what the gates of its plan tell a party is what that evaluation
-- tells it.
use Rattle.std.proofs.Common.{ℕ, zero, suc, ◌≡◌, ◌+◌, Bool, true, false, cond, List, [], ◌∷◌, ◌++◌, length, map, Some, None, refl, sym, ◌∙◌, ap, ap₂, add-one}
use Rattle.std.specs.Prelude.{slice_get, slice_index, sum, replicate, filter}
use Rattle.std.specs.List.{flat_map}
use Rattle.std.proofs.lemmas.List.{length-append, length-replicate, length_push}
use Rattle.std.proofs.lemmas.List.Sums.{sum_by-cons}
use Rattle.share_types.specs.declared.bits.Bits.{Bits}
use Rattle.share_types.specs.Bits.{number, bits}
use Rattle.share_types.proofs.BitsLemmas.{length-bits}
use Rattle.circuit_tables.specs.Table.{Output, Told, asked, joined_bits, total_width, AreCut}
use Rattle.circuit_tables.specs.Values.{HaveWidths}
use Rattle.circuit_tables.proofs.CutLemmas.{cuts_once}
use Rattle.mixed_language.specs.Circuit.{Statement}
use Rattle.mixed_language.specs.Circuit as mixed
use Rattle.mixed_language.specs.Language.{states, is_told_slot}
use Rattle.mixed_language.specs.Table as mixed_table
use Rattle.mixed_language.specs.Eval as mixed_eval
use Rattle.mixed_language.proofs.ExistsLemmas.{values_exist, each_evaluates}
use Rattle.bristol_reader.specs.Circuit as bristol
use Rattle.bristol_reader.specs.Built.{IsBuilt}
use Rattle.bristol_reader.specs.Table as bristol_table
use Rattle.bristol_reader.specs.Eval as bristol_eval
use Rattle.bristol_reader.proofs.TableLemmas.{have_widths}
use Rattle.bristol_reader.proofs.ExistsLemmas as bristol_exists
use Rattle.plan_gates.specs.Gate.{Gate, width_at}
use Rattle.plan_gates.specs.Plan.{Gates, IsPlan, has_keys}
use Rattle.plan_gates.specs.Plain.{Outside, only, plain_before, number_at, GateTold, told_by, plain_numbers}
use Rattle.share_types.specs.Wires.{includes}
use Rattle.gate_plan.specs.Keeps.{unnamed, entering, KeepsEvaluation}
use Rattle.gate_plan.proofs.LawfulLemmas.{lawful_without, parts_exist}
use Rattle.joint_run.proofs.Converting.{unconverted}
use Rattle.gate_plan.specs.Bristol.{told_bits, KeepsBristol}
use Rattle.gate_tasks.specs.Report.{told_to}
use Rattle.local_run.specs.Told.{bits_of_entries, outputs_to, AreToldInPlain}
use Rattle.local_run.proofs.Told.{told_bits_are_those_of_outputs}
use Rattle.local_engine.proofs.Told.{mixed_outputs_are_told, bristol_outputs_are_told}
use Rattle.any_circuit.specs.Circuits as circuits
use Rattle.any_circuit.specs.Circuits.{Circuit, Mixed, InBristol, inputs_of, outputs_of, plan_of, IsWhole, Keeps, IsPlain}

-- each circuit that is whole has a plain evaluation on values of its inputs
pub plain_exists : (c : Circuit) (v : List (List Bool)) → IsWhole c → HaveWidths None (inputs_of c) v →
    (outputs : List Told) × IsPlain c v outputs
plain_exists (Mixed c) v whole widths = each_evaluates c v
plain_exists (InBristol b c) v whole widths =
    bristol_exists.each_evaluates c v whole.0
    (have_widths b.parties c (bristol_table.inputs_of b.parties c) refl v widths)

-- ---- how many bits a party is told

-- the bits of vectors, of which each has the width of its gate
vectors_width : (width number_of : ℕ → ℕ) (gs : List ℕ) →
    length (flat_map (λ g. bits (width g) (number_of g)) gs) ≡ sum (map width gs)
vectors_width width number_of [] = refl
vectors_width width number_of (g ∷ gs) =
    length-append (bits (width g) (number_of g)) (flat_map (λ k. bits (width k) (number_of k)) gs)
    ∙ (ap₂ (λ (n m : ℕ). n + m) (length-bits (width g) (number_of g)) (vectors_width width number_of gs)
    ∙ sym (sum_by-cons (λ n. n) (width g) (map width gs)))

-- there is a number for each gate
length_plain : (gates : List Gate) (outside : Outside) (n : ℕ) → length (plain_before gates outside n) ≡ n
length_plain gates outside zero = refl
length_plain gates outside (suc n) =
    length_push (plain_before gates outside n)
    (number_at gates outside (plain_before gates outside n) (slice_get gates n))
    ∙ (ap (λ (k : ℕ). k + 1) (length_plain gates outside n) ∙ add-one n)

-- so many bits are told to a party as those of its output gates together
told_width : (plan : Gates) (outside : Outside) (p : ℕ) →
    sum (map (width_at plan.gates) (told_to plan p))
    ≡ length (bits_of_entries (told_by plan.gates (plain_numbers plan outside)) p)
told_width plan outside p =
    let numbers = plain_numbers plan outside in
    let count = length_plain plan.gates outside (length plan.gates) in
    sym (vectors_width (width_at plan.gates) (slice_index numbers) (told_to plan p))
    ∙ ap length (told_bits_are_those_of_outputs plan numbers p count)

-- the outputs of a table that a party is told
abbrev asked_by : ℕ → List Output → List Output
asked_by p outputs = asked (Some (record { 0 = p })) outputs

-- what a mixed circuit tells a party has as many bits as the outputs that it is told
module _ (all : List Statement) (made : List ℕ) (p : ℕ) where
  abbrev width_told : Statement → ℕ
  width_told s = mixed_table.width_at all (mixed_table.told_value s)

  abbrev number_told : Statement → ℕ
  number_told s = slice_index made (mixed_table.told_value s)

  abbrev told_by_it : Statement → Told
  told_by_it s = record {
    name = mixed_table.name_at all (mixed_table.told_value s);
    to = mixed_table.receiver_of s.shape.party;
    bits = bits (width_told s) (number_told s);
  }

  abbrev entry : Statement → Output
  entry s = record {
    name = mixed_table.name_at all (mixed_table.told_value s);
    to = mixed_table.receiver_of s.shape.party;
    width = width_told s;
  }

  abbrev told_it : List Told → List GateTold
  told_it ts = filter (λ (e : GateTold). includes e.to p) (map unnamed ts)

  one_entry : (s : Statement) (more : List Told) (others : List Output) (b : Bool) →
      length (bits_of_entries (map unnamed more) p) ≡ total_width (asked_by p others) →
      length (flat_map (λ (e : GateTold). e.bits) (cond b (unnamed (told_by_it s) ∷ told_it more) (told_it more)))
      ≡ total_width (cond b (entry s ∷ asked_by p others) (asked_by p others))
  one_entry s more others true rest =
      length-append (bits (width_told s) (number_told s)) (bits_of_entries (map unnamed more) p)
      ∙ ap₂ (λ (n m : ℕ). n + m) (length-bits (width_told s) (number_told s)) rest
  one_entry s more others false rest = rest

  one_more : (s : Statement) (more : List Told) (others : List Output) (b : Bool) →
      length (bits_of_entries (map unnamed more) p) ≡ total_width (asked_by p others) →
      length (bits_of_entries (map unnamed (cond b (told_by_it s ∷ []) [] ++ more)) p)
      ≡ total_width (asked_by p (cond b (entry s ∷ []) [] ++ others))
  one_more s more others true rest = one_entry s more others (includes (entry s).to p) rest
  one_more s more others false rest = rest

  entries_width : (ss : List Statement) →
      length (bits_of_entries (map unnamed (mixed_eval.told_among all made ss)) p)
      ≡ total_width (asked_by p (mixed_table.outputs_among all ss))
  entries_width [] = refl
  entries_width (s ∷ ss) =
      one_more s (mixed_eval.told_among all made ss) (mixed_table.outputs_among all ss)
      (states is_told_slot s.shape.operation) (entries_width ss)

mixed_widths : (c : mixed.Circuit) (plan : Gates) (p : ℕ) → IsPlan plan → KeepsEvaluation c plan →
    total_width (asked_by p (mixed_table.outputs_of c)) ≡ sum (map (width_at plan.gates) (told_to plan p))
mixed_widths c plan p valid keeps =
    let made = values_exist c.statements [] in
    let parts = parts_exist plan [] valid in
    sym (told_width plan (entering [] parts.0) p
    ∙ (ap (λ (es : List GateTold). length (bits_of_entries es p)) (keeps (entering [] parts.0) made.0 parts.1 made.1).told_kept
    ∙ entries_width c.statements made.0 p c.statements))

-- all bits of a circuit in Bristol Fashion are told to all
all_told : (p : ℕ) (bs : List Bool) → length (bits_of_entries (told_bits bs) p) ≡ length bs
all_told p [] = refl
all_told p (b ∷ bs) = ap suc (all_told p bs)

all_asked : (p at : ℕ) (widths : List ℕ) →
    total_width (asked_by p (bristol_table.outputs_from at widths)) ≡ sum widths
all_asked p at [] = refl
all_asked p at (w ∷ widths) =
    ap (λ (n : ℕ). w + n) (all_asked p (at + 1) widths) ∙ sym (sum_by-cons (λ n. n) w widths)

abbrev zeros : List ℕ → List (List Bool)
zeros widths = map (λ (w : ℕ). replicate w false) widths

zeros_widths : (widths : List ℕ) → map (λ (v : List Bool). length v) (zeros widths) ≡ widths
zeros_widths [] = refl
zeros_widths (w ∷ widths) =
    ap₂ (λ (n : ℕ) (ns : List ℕ). n ∷ ns) (length-replicate w false) (zeros_widths widths)

bristol_widths : (c : bristol.Circuit) (plan : Gates) (p : ℕ) → IsBuilt c → KeepsBristol c plan →
    total_width (asked_by p (bristol_table.outputs_of c)) ≡ sum (map (width_at plan.gates) (told_to plan p))
bristol_widths c plan p built keeps =
    let none = zeros c.inputs in
    let widths : bristol_table.HaveInputWidths c none = record { widths = zeros_widths c.inputs } in
    let made = bristol_exists.wire_bits c none built widths in
    all_asked p 0 c.outputs
    ∙ sym (told_width plan (only (map number none)) p
    ∙ (ap (λ (es : List GateTold). length (bits_of_entries es p)) (keeps (only (map number none)) none made.0 refl widths made.1)
    ∙ (all_told p (bristol_eval.output_bits c made.0) ∙ bristol_exists.length_outputs c none made.0 built made.1)))

-- the outputs that a party is told have as many bits together as the gates that tell it their values
pub told_widths : (c : Circuit) (p : ℕ) → IsWhole c → IsPlan (plan_of c) → Keeps c (plan_of c) →
    total_width (asked (Some (record { 0 = p })) (outputs_of c))
    ≡ sum (map (width_at (plan_of c).gates) (told_to (plan_of c) p))
told_widths (Mixed c) p whole valid keeps = mixed_widths c (plan_of (Mixed c)) p valid keeps
told_widths (InBristol b c) p whole valid keeps = bristol_widths c (plan_of (InBristol b c)) p whole.0.built keeps

-- ---- a party is told the outputs of the plain evaluation

mixed_tells : (c : mixed.Circuit) (plan : Gates) (p : ℕ) (v : List (List Bool)) (told : List Bits)
    (outputs all : List Told) →
    has_keys plan ≡ false → KeepsEvaluation c plan → AreToldInPlain plan (only (map number v)) p told → mixed_eval.IsPlain c v all →
    AreCut (asked_by p (mixed_table.outputs_of c)) (joined_bits told) outputs → outputs ≡ outputs_to p all
mixed_tells c plan p v told outputs all unkeyed keeps are plain cut =
    let lawful = lawful_without plan (only (map number v)) (plain_numbers plan (only (map number v))) (unconverted plan unkeyed) in
    let kept = keeps (only (map number v)) plain.values lawful plain.evaluated in
    cuts_once (asked_by p (mixed_table.outputs_of c)) (joined_bits told) outputs
    (outputs_to p (mixed_eval.told_of c plain.values)) cut
    (mixed_outputs_are_told c plan (only (map number v)) plain.values p told kept are)
    ∙ ap (outputs_to p) (sym plain.told)

bristol_tells : (c : bristol.Circuit) (plan : Gates) (p : ℕ) (v : List (List Bool)) (told : List Bits)
    (outputs all : List Told) →
    KeepsBristol c plan → bristol_table.HaveInputWidths c v →
    AreToldInPlain plan (only (map number v)) p told → bristol_eval.IsPlain c v all →
    AreCut (asked_by p (bristol_table.outputs_of c)) (joined_bits told) outputs → outputs ≡ outputs_to p all
bristol_tells c plan p v told outputs all keeps widths are plain cut =
    cuts_once (asked_by p (bristol_table.outputs_of c)) (joined_bits told) outputs (outputs_to p all) cut
    (bristol_outputs_are_told c plan (only (map number v)) v plain.bits all p told keeps refl widths plain.wires plain.told are)

-- the outputs that are cut of what a party is told in plain are those of the plain evaluation that it is told
pub tells_plainly : (c : Circuit) (p : ℕ) (v : List (List Bool)) (told : List Bits) (outputs all : List Told) →
    IsWhole c → has_keys (plan_of c) ≡ false → Keeps c (plan_of c) → HaveWidths None (inputs_of c) v →
    AreToldInPlain (plan_of c) (only (map number v)) p told → IsPlain c v all →
    AreCut (asked (Some (record { 0 = p })) (outputs_of c)) (joined_bits told) outputs →
    outputs ≡ circuits.told_to p all
tells_plainly (Mixed c) p v told outputs all whole unkeyed keeps widths are plain cut =
    mixed_tells c (plan_of (Mixed c)) p v told outputs all unkeyed keeps are plain cut
tells_plainly (InBristol b c) p v told outputs all whole unkeyed keeps widths are plain cut =
    bristol_tells c (plan_of (InBristol b c)) p v told outputs all keeps
    (have_widths b.parties c (bristol_table.inputs_of b.parties c) refl v widths) are plain cut
