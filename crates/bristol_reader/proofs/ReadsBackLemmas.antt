-- The canonical text of a circuit reads as that circuit.
use Rattle.std.proofs.Common.{ℕ, ◌≡◌, ◌<◌, ◌≤◌, ◌+◌, ◌-◌, ◌*◌, ◌^◌, Bool, true, false, not, ◌||◌, nat_lt, List, [], ◌∷◌, ◌++◌, length, map, take, drop, suc, Some, None, Ok, refl, sym, ◌∙◌, ap, subst, cond, arith, append_assoc, append-nil, inl, inr}
use Rattle.std.specs.Prelude.{◌==◌, nat_le, slice_get, sum}
use Rattle.std.specs.List.{list_all, list_any, join_with_byte, IsDistinct, AllByRecursion}
use Rattle.std.specs.Fmt.{decimal}
use Rattle.std.proofs.lemmas.Bool.{and_from, and_parts, or_parts, or_cases, lt-ltb, ltb-true, le-leb, eq-eqb, ne_eqb, eqb-true}
use Rattle.std.proofs.lemmas.List.{length-map, length-append, take_at, drop_at, length_push, get_or_push, nil_from_length}
use Rattle.std.proofs.lemmas.List.Sums.{sum_by-cons}
use lib.Dec.{eqb}
use Rattle.std.proofs.lemmas.List.Folds.{list_all-append, flat_map-map}
use Rattle.std.proofs.Math.Seq.{take-append_seam}
use Rattle.std.proofs.lemmas.Map.Steps.{length-le_from_distinct_below}
use Rattle.mot_base.specs.Limits.{most_statements, most_wires}
use Rattle.bristol_reader.specs.declared.kind.BristolKind.{BristolKind}
use Rattle.bristol_reader.specs.declared.kind.BristolKind.TheVariants.{Xor, And, Inv, Eq, Eqw, Mand}
use Rattle.bristol_reader.specs.declared.stage.Stage.{Stage}
use Rattle.bristol_reader.specs.declared.stage.Stage.TheVariants.{Start, Sized, Entered, Body}
use Rattle.bristol_reader.specs.Kinds.{name_of, kind_of, is_arity, is_constant}
use Rattle.bristol_reader.specs.Circuit.{Gate, Circuit, Heading, Progress, no_gates, more_gates, is_among, are_apart, are_outputs_set}
use Rattle.bristol_reader.specs.Line.{numbers_of, gate_stated, input_bound, gate_used, added, adds_numbers, last_word, front_words, adds}
use Rattle.bristol_reader.specs.Built.{are_positive, FitsBehind, IsBuilt, IsCircuit}
use Rattle.bristol_reader.specs.Stored.{a_gate}
use Rattle.bristol_reader.specs.Grammar.{circuits, sizes_in, sizes_said, widths_in, widths_said, ended, behind_words, behind_line, behind, Reads}
use Rattle.bristol_reader.specs.Written.{sizes_words, widths_words, gate_words, all_words, canonical}
use Rattle.bristol_reader.proofs.DecimalLemmas.{are_kept, decimals_plain, decimals_read}
use Rattle.bristol_reader.proofs.BuiltLemmas.{parts}
use Rattle.bristol_reader.proofs.WidthLemmas.{few_values}
use Rattle.bristol_reader.proofs.ReadLemmas.{known, behind_known}
use Rattle.text_lines.specs.LineReader.{Lead}
use Rattle.text_lines.specs.Text.{Text, lines}
use Rattle.text_lines.proofs.JoinedLemmas.{is_plain_word, is_inner, ended as ended_lines, joined_inner, joined_allowed, words_joined, lines_ended}
use Rattle.mot_base.proofs.Lists.{not_true, equal_turned as same_sym}

-- ---- numbers of a circuit

kept_below : (bound : ℕ) (ns : List ℕ) → bound ≤ 2 ^ 64 → list_all (λ n. nat_lt n bound) ns ≡ true → are_kept ns ≡ true
kept_below bound [] h e = refl
kept_below bound (n ∷ ns) h e =
    let tests = and_parts (nat_lt n bound) _ e in
    let below = ltb-true n bound tests.0 in
    and_from _ _ (lt-ltb n (2 ^ 64) (omega arith)) (kept_below bound ns h tests.1)

kept_sum : (ns : List ℕ) → sum ns < 2 ^ 64 → are_kept ns ≡ true
kept_sum [] h = refl
kept_sum (n ∷ ns) h =
    let whole = sum_by-cons (λ m. m) n ns in
    and_from _ _ (lt-ltb n (2 ^ 64) (omega arith)) (kept_sum ns (omega arith))

none_equal : (ws : List ℕ) (w : ℕ) → is_among ws w ≡ false → AllByRecursion (λ y. (w == y) ≡ false) ws
none_equal [] w h = tt
none_equal (x ∷ ws) w h = let tests = or_parts (x == w) (is_among ws w) h in (same_sym w x ∙ tests.0, none_equal ws w tests.1)

distinct : (ws : List ℕ) → are_apart ws ≡ true → IsDistinct eqb ws
unfolding IsDistinct
distinct [] h = tt
distinct (w ∷ ws) h =
    let tests = and_parts (not (is_among ws w)) (are_apart ws) h in
    (none_equal ws w (not_true (is_among ws w) tests.0), distinct ws tests.1)

all_below : (bound : ℕ) (ws : List ℕ) (q : ℕ) → list_all (λ w. nat_lt w bound) ws ≡ true → list_any (eqb q) ws ≡ true → q < bound
all_below bound [] q h e = cc
all_below bound (w ∷ ws) q h e =
    let tests = and_parts (nat_lt w bound) _ h in
    elim (or_cases (eqb q w) (list_any (eqb q) ws) e) [
      | inl here ↦ (let same = eqb-true q w here in let below = ltb-true w bound tests.0 in omega arith)
      | inr later ↦ all_below bound ws q tests.1 later
    ]

-- wires that are apart are no more than all wires
few_wires : (bound : ℕ) (ws : List ℕ) → are_apart ws ≡ true → list_all (λ w. nat_lt w bound) ws ≡ true → length ws ≤ bound
few_wires bound ws apart h = length-le_from_distinct_below ws bound (distinct ws apart) (λ q e. all_below bound ws q h e)

few_ins : (kind : BristolKind) (ins outs : ℕ) → is_arity kind ins outs ≡ true → ins ≤ 2 * outs + 2
few_ins Xor ins outs h = let e = eqb-true ins 2 (and_parts (ins == 2) (outs == 1) h).0 in omega arith
few_ins And ins outs h = let e = eqb-true ins 2 (and_parts (ins == 2) (outs == 1) h).0 in omega arith
few_ins Inv ins outs h = let e = eqb-true ins 1 (and_parts (ins == 1) (outs == 1) h).0 in omega arith
few_ins Eq ins outs h = let e = eqb-true ins 1 (and_parts (ins == 1) (outs == 1) h).0 in omega arith
few_ins Eqw ins outs h = let e = eqb-true ins 1 (and_parts (ins == 1) (outs == 1) h).0 in omega arith
few_ins Mand ins outs h = let e = eqb-true ins (2 * outs) (and_parts (nat_le 1 outs) (ins == 2 * outs) h).1 in omega arith

bound_few : (b : Bool) (wires : ℕ) → wires ≤ most_wires → cond b 2 wires ≤ 2 ^ 64
bound_few true wires h = omega arith
bound_few false wires h = omega arith

-- ---- a gate

-- the numbers of a gate's line
abbrev gate_numbers : Gate → List ℕ
gate_numbers g = length g.ins ∷ length g.outs ∷ (g.ins ++ g.outs)

numbers_kept : (c : Circuit) (g : Gate) → c.wires ≤ most_wires → FitsBehind c g → are_kept (gate_numbers g) ≡ true
numbers_kept c g few fits =
    let range = and_parts (list_all (λ x. nat_lt x (input_bound g.kind c.wires)) g.ins) (list_all (λ w. nat_lt w c.wires) g.outs) fits.range in
    let apart = (and_parts _ (are_apart g.outs) fits.once).1 in
    let outs = few_wires c.wires g.outs apart range.1 in
    let ins = few_ins g.kind (length g.ins) (length g.outs) fits.arity in
    and_from _ _ (lt-ltb (length g.ins) (2 ^ 64) (omega arith))
    (and_from _ _ (lt-ltb (length g.outs) (2 ^ 64) (omega arith))
    (list_all-append (λ n. nat_lt n (2 ^ 64)) g.ins g.outs
    ∙ and_from _ _ (kept_below (input_bound g.kind c.wires) g.ins (bound_few (is_constant g.kind) c.wires few) range.0) (kept_below c.wires g.outs (omega arith) range.1)))

kind_read : (kind : BristolKind) → kind_of (name_of kind) ≡ Some kind
kind_read Xor = refl
kind_read And = refl
kind_read Inv = refl
kind_read Eq = refl
kind_read Eqw = refl
kind_read Mand = refl

name_plain : (kind : BristolKind) → is_plain_word (name_of kind) ≡ true
name_plain Xor = refl
name_plain And = refl
name_plain Inv = refl
name_plain Eq = refl
name_plain Eqw = refl
name_plain Mand = refl

words_plain : (c : Circuit) (g : Gate) → c.wires ≤ most_wires → FitsBehind c g → list_all is_plain_word (gate_words g) ≡ true
words_plain c g few fits =
    list_all-append is_plain_word (map decimal (gate_numbers g)) (name_of g.kind ∷ [])
    ∙ and_from _ _ (decimals_plain (gate_numbers g) (numbers_kept c g few fits)) (and_from _ true (name_plain g.kind) refl)

last_is : (ws : List Text) (w : Text) → last_word (ws ++ w ∷ []) ≡ w
last_is ws w = let count = length_push ws w in get_or_push ws w [] (length (ws ++ w ∷ []) - 1) (omega arith)

front_is : (ws : List Text) (w : Text) → front_words (ws ++ w ∷ []) ≡ ws
front_is ws w = let count = length_push ws w in take_at ws (w ∷ []) (length (ws ++ w ∷ []) - 1) (omega arith)

stated_again : (g : Gate) → is_arity g.kind (length g.ins) (length g.outs) ≡ true → gate_stated g.kind (gate_numbers g) ≡ Some g
stated_again g arity =
    let count : (length (g.ins ++ g.outs) == length g.ins + length g.outs) ≡ true = eq-eqb _ _ (length-append g.ins g.outs) in
    let tests = and_from (length (g.ins ++ g.outs) == length g.ins + length g.outs) (is_arity g.kind (length g.ins) (length g.outs)) count arity in
    ap (λ (b : Bool). cond b (Some (a_gate g.kind (take (length g.ins) (g.ins ++ g.outs)) (drop (length g.ins) (g.ins ++ g.outs)))) None) tests
    ∙ ap (λ (xs : List ℕ). Some (a_gate g.kind xs (drop (length g.ins) (g.ins ++ g.outs)))) (take_at g.ins g.outs (length g.ins) refl)
    ∙ ap (λ (xs : List ℕ). Some (a_gate g.kind g.ins xs)) (drop_at g.ins g.outs (length g.ins) refl)

used_again : (c : Circuit) (g : Gate) → FitsBehind c g → gate_used c g.kind (gate_numbers g) ≡ Ok g
unfolding gate_used
used_again c g fits = rw (stated_again g fits.arity, fits.range, fits.used) refl

numbers_again : (p : Progress) (g : Gate) → FitsBehind p.circuit g → adds_numbers p g.kind (gate_numbers g) ≡ Ok (more_gates p g)
unfolding adds_numbers added
numbers_again p g fits = rw (used_again p.circuit g fits, fits.once) refl

adds_again : (p : Progress) (g : Gate) → p.circuit.wires ≤ most_wires → FitsBehind p.circuit g → adds p (gate_words g) ≡ Ok (more_gates p g)
unfolding adds
adds_again p g few fits =
    let front = map decimal (gate_numbers g) in
    let name = name_of g.kind in
    let kind : kind_of (last_word (front ++ name ∷ [])) ≡ Some g.kind = ap kind_of (last_is front name) ∙ kind_read g.kind in
    let numbers : numbers_of (front_words (front ++ name ∷ [])) ≡ Some (gate_numbers g) = ap numbers_of (front_is front name) ∙ decimals_read (gate_numbers g) (numbers_kept p.circuit g few fits) in
    rw (kind, numbers) (numbers_again p g fits)

-- ---- a line of words

line_is : (last : Bool) (stage : Stage) (w : Text) (ws : List Text) → list_all is_plain_word (w ∷ ws) ≡ true → behind_line last stage (join_with_byte 32 (w ∷ ws)) ≡ behind_words last stage (w ∷ ws)
unfolding behind_line
line_is last stage w ws plain = rw (joined_allowed (w ∷ ws) plain, words_joined w ws plain) refl

ended_ok : (last : Bool) (p : Progress) → (last ≡ true → p.stated ≤ length p.circuit.gates) → (last ≡ true → are_outputs_set p.circuit ≡ true) → ended last p ≡ Ok (Body p)
unfolding ended
ended_ok false p enough set = refl
ended_ok true p enough set = rw (le-leb p.stated (length p.circuit.gates) (enough refl), set refl) refl

counts_ok : (last : Bool) (p : Progress) → (last ≡ true → p.stated ≤ length p.circuit.gates + 1) → (not last || nat_le p.stated (length p.circuit.gates + 1)) ≡ true
counts_ok false p enough = refl
counts_ok true p enough = le-leb p.stated (length p.circuit.gates + 1) (enough refl)

gate_again : (last : Bool) (p : Progress) (g : Gate) → p.circuit.wires ≤ most_wires → FitsBehind p.circuit g → length p.circuit.gates < p.stated → (last ≡ true → p.stated ≤ length p.circuit.gates + 1) → (last ≡ true → are_outputs_set (more_gates p g).circuit ≡ true) → behind_words last (Body p) (gate_words g) ≡ Ok (Body (more_gates p g))
unfolding behind_words
gate_again last p g few fits room enough set =
    let count = length_push p.circuit.gates g in
    rw (counts_ok last p enough, lt-ltb (length p.circuit.gates) p.stated room, adds_again p g few fits)
    (ended_ok last (more_gates p g) (λ e. let all = enough e in omega arith) set)

-- ---- the header lines

sizes_again : (c : Circuit) → IsBuilt c → sizes_said false (sizes_words c) ≡ Ok (record { gates = length c.gates; wires = c.wires })
unfolding sizes_said sizes_in
sizes_again c built =
    let gates = built.few_gates in
    let wires = built.few_wires in
    let kept : are_kept (length c.gates ∷ c.wires ∷ []) ≡ true = and_from _ _ (lt-ltb (length c.gates) (2 ^ 64) (omega arith)) (and_from _ true (lt-ltb c.wires (2 ^ 64) (omega arith)) refl) in
    rw (decimals_read (length c.gates ∷ c.wires ∷ []) kept, le-leb (length c.gates) most_statements gates, le-leb c.wires most_wires wires) refl

widths_kept_again : (wires : ℕ) (ws : List ℕ) → wires ≤ most_wires → are_positive ws ≡ true → sum ws ≤ wires → are_kept (length ws ∷ ws) ≡ true
widths_kept_again wires ws few positive fits = let count = few_values ws positive in and_from _ _ (lt-ltb (length ws) (2 ^ 64) (omega arith)) (kept_sum ws (omega arith))

widths_again : (wires : ℕ) (ws : List ℕ) → wires ≤ most_wires → are_positive ws ≡ true → sum ws ≤ wires → widths_said false wires (widths_words ws) ≡ Ok ws
unfolding widths_said widths_in
widths_again wires ws few positive fits =
    rw (decimals_read (length ws ∷ ws) (widths_kept_again wires ws few positive fits), eq-eqb (length ws) (length ws) refl, positive, le-leb (sum ws) wires fits) refl

-- ---- the lines of the gates

abbrev line_in : List Text → Text
line_in ws = join_with_byte 32 ws

abbrev body : Circuit → List Gate → Stage
body c gates = Body (record { stated = length c.gates; circuit = parts c.wires c.inputs c.outputs gates })

step_known : (n m : ℕ) (stage next : Stage) (line : Text) (last : Bool) → (n == 1) ≡ last → n ≡ m + 1 → behind_line last stage line ≡ Ok next → behind (known n stage) line ≡ Ok (known m next)
step_known n m stage next line last e count h =
    behind_known n stage line last (Ok next) e h ∙ ap (λ (k : ℕ). Ok (known k next)) (let less : n - 1 ≡ m = omega arith in less)

gate_line_is : (last : Bool) (stage : Stage) (g : Gate) → list_all is_plain_word (gate_words g) ≡ true → behind_line last stage (line_in (gate_words g)) ≡ behind_words last stage (gate_words g)
gate_line_is last stage g plain = line_is last stage (decimal (length g.ins)) ((decimal (length g.outs) ∷ map decimal (g.ins ++ g.outs)) ++ name_of g.kind ∷ []) plain

-- the lines of some last gates lead on to the whole circuit, and have no line end in them
record IsWritten (count : ℕ) (c : Circuit) (before after : List Gate) : Type 0 where
  lead : Lead (circuits count) (known (length after) (body c before)) (map (λ g. line_in (gate_words g)) after) (known 0 (body c c.gates))
  inner : list_all (list_all is_inner) (map (λ g. line_in (gate_words g)) after) ≡ true

gate_there : (before : List Gate) (g : Gate) (after : List Gate) → slice_get (before ++ g ∷ after) (length before) ≡ Some g
gate_there [] g after = refl
gate_there (h ∷ before) g after = gate_there before g after

fits_there : (c : Circuit) (before : List Gate) (g : Gate) (after : List Gate) → IsBuilt c → before ++ g ∷ after ≡ c.gates → FitsBehind (parts c.wires c.inputs c.outputs before) g
fits_there c before g after built cut =
    let here : slice_get c.gates (length before) ≡ Some g = ap (λ (gs : List Gate). slice_get gs (length before)) (sym cut) ∙ gate_there before g after in
    let front : take (length before) c.gates ≡ before = ap (take (length before)) (sym cut) ∙ take-append_seam before (g ∷ after) in
    subst (λ (gs : List Gate). FitsBehind (parts c.wires c.inputs c.outputs gs) g) front (built.each (length before) g here)

last_none : (after : List Gate) → (suc (length after) == 1) ≡ true → after ≡ []
last_none after e = let one = eqb-true (suc (length after)) 1 e in nil_from_length after (omega arith)

written_behind : (count : ℕ) (c : Circuit) (before after : List Gate) → IsCircuit c → before ++ after ≡ c.gates → IsWritten count c before after
written_behind count c before [] circuit cut = record {
  lead = ap (λ (gs : List Gate). known 0 (body c gs)) (sym (append-nil before) ∙ cut);
  inner = refl;
}
written_behind count c before (g ∷ after) circuit cut =
    let built = circuit.built in
    let fits = fits_there c before g after built cut in
    let plain = words_plain (parts c.wires c.inputs c.outputs before) g built.few_wires fits in
    let all : length c.gates ≡ length before + suc (length after) = ap length (sym cut) ∙ length-append before (g ∷ after) in
    let last : Bool = suc (length after) == 1 in
    let next = append_assoc before (g ∷ []) after ∙ cut in
    let rest = written_behind count c (before ++ g ∷ []) after circuit next in
    let whole : (e : last ≡ true) → before ++ g ∷ [] ≡ c.gates = λ e. ap (λ (gs : List Gate). before ++ g ∷ gs) (sym (last_none after e)) ∙ cut in
    let step : behind_line last (body c before) (line_in (gate_words g)) ≡ Ok (body c (before ++ g ∷ [])) =
    gate_line_is last (body c before) g plain
    ∙ gate_again last (record { stated = length c.gates; circuit = parts c.wires c.inputs c.outputs before }) g built.few_wires fits (omega arith)
    (λ e. let none = ap length (last_none after e) in omega arith)
    (λ e. ap (λ (gs : List Gate). are_outputs_set (parts c.wires c.inputs c.outputs gs)) (whole e) ∙ circuit.set) in
    record {
      lead = (known (length after) (body c (before ++ g ∷ [])), step_known (suc (length after)) (length after) (body c before) (body c (before ++ g ∷ [])) (line_in (gate_words g)) last refl (omega arith) step, rest.lead);
      inner = and_from _ _ (joined_inner (gate_words g) plain) rest.inner;
    }

-- ---- the whole text

abbrev lines_of : Circuit → List Text
lines_of c = line_in (sizes_words c) ∷ line_in (widths_words c.inputs) ∷ line_in (widths_words c.outputs) ∷ map (λ g. line_in (gate_words g)) c.gates

abbrev heading_of : Circuit → Heading
heading_of c = record { sizes = record { gates = length c.gates; wires = c.wires }; inputs = c.inputs }

map_twice : (gs : List Gate) → map line_in (map gate_words gs) ≡ map (λ g. line_in (gate_words g)) gs
map_twice [] = refl
map_twice (g ∷ gs) = ap (λ (ls : List Text). line_in (gate_words g) ∷ ls) (map_twice gs)

canonical_lines : (c : Circuit) → ended_lines (lines_of c) ≡ canonical c
unfolding canonical
canonical_lines c =
    ap (λ (ls : List Text). ended_lines (line_in (sizes_words c) ∷ line_in (widths_words c.inputs) ∷ line_in (widths_words c.outputs) ∷ ls)) (sym (map_twice c.gates))
    ∙ flat_map-map (λ (line : Text). line ++ 10 ∷ []) line_in (all_words c)

sizes_plain : (c : Circuit) → IsBuilt c → list_all is_plain_word (sizes_words c) ≡ true
sizes_plain c built =
    let gates = built.few_gates in
    let wires = built.few_wires in
    decimals_plain (length c.gates ∷ c.wires ∷ []) (and_from _ _ (lt-ltb (length c.gates) (2 ^ 64) (omega arith)) (and_from _ true (lt-ltb c.wires (2 ^ 64) (omega arith)) refl))

widths_plain : (wires : ℕ) (ws : List ℕ) → wires ≤ most_wires → are_positive ws ≡ true → sum ws ≤ wires → list_all is_plain_word (widths_words ws) ≡ true
widths_plain wires ws few positive fits = decimals_plain (length ws ∷ ws) (widths_kept_again wires ws few positive fits)

first_line : (c : Circuit) → IsBuilt c → behind_line false Start (line_in (sizes_words c)) ≡ Ok (Sized (record { gates = length c.gates; wires = c.wires }))
unfolding behind_words
first_line c built = line_is false Start (decimal (length c.gates)) (decimal c.wires ∷ []) (sizes_plain c built) ∙ rw (sizes_again c built) refl

second_line : (c : Circuit) → IsBuilt c → behind_line false (Sized (record { gates = length c.gates; wires = c.wires })) (line_in (widths_words c.inputs)) ≡ Ok (Entered (heading_of c))
unfolding behind_words
second_line c built =
    line_is false (Sized (record { gates = length c.gates; wires = c.wires })) (decimal (length c.inputs)) (map decimal c.inputs) (widths_plain c.wires c.inputs built.few_wires built.input_widths built.few_inputs)
    ∙ rw (widths_again c.wires c.inputs built.few_wires built.input_widths built.few_inputs) refl

third_line : (c : Circuit) (last : Bool) → IsCircuit c → (last ≡ true → c.gates ≡ []) → behind_line last (Entered (heading_of c)) (line_in (widths_words c.outputs)) ≡ Ok (body c [])
unfolding behind_words
third_line c last circuit none =
    let built = circuit.built in
    line_is last (Entered (heading_of c)) (decimal (length c.outputs)) (map decimal c.outputs) (widths_plain c.wires c.outputs built.few_wires built.output_widths built.few_outputs)
    ∙ rw (widths_again c.wires c.outputs built.few_wires built.output_widths built.few_outputs)
    (ended_ok last (no_gates (heading_of c) c.outputs)
    (λ e. let count = ap length (none e) in omega arith)
    (λ e. ap (λ (gs : List Gate). are_outputs_set (parts c.wires c.inputs c.outputs gs)) (sym (none e)) ∙ circuit.set))

lead_all : (count : ℕ) (c : Circuit) → IsCircuit c → Lead (circuits count) (known (length c.gates + 3) Start) (lines_of c) (known 0 (body c c.gates))
lead_all count c circuit =
    let built = circuit.built in
    let n = length c.gates in
    let one = ne_eqb (n + 3) 1 (λ e. omega arith) in
    let two = ne_eqb (n + 2) 1 (λ e. omega arith) in
    let rest = written_behind count c [] c.gates circuit refl in (
      known (n + 2) (Sized (record { gates = n; wires = c.wires })),
      step_known (n + 3) (n + 2) Start _ _ false one (omega arith) (first_line c built),
      (
        known (n + 1) (Entered (heading_of c)),
        step_known (n + 2) (n + 1) _ _ _ false two (omega arith) (second_line c built),
        (
          known n (body c []),
          step_known (n + 1) n _ _ _ (n + 1 == 1) refl refl (third_line c (n + 1 == 1) circuit (λ e. let one = eqb-true (n + 1) 1 e in nil_from_length c.gates (omega arith))),
          rest.lead,
        ),
      ),
    )

pub reads_back : (c : Circuit) → IsCircuit c → Reads (canonical c) c
reads_back c circuit =
    let built = circuit.built in
    let rest = written_behind 0 c [] c.gates circuit refl in
    let inner : list_all (list_all is_inner) (lines_of c) ≡ true =
    and_from _ _ (joined_inner (sizes_words c) (sizes_plain c built))
    (and_from _ _ (joined_inner (widths_words c.inputs) (widths_plain c.wires c.inputs built.few_wires built.input_widths built.few_inputs))
    (and_from _ _ (joined_inner (widths_words c.outputs) (widths_plain c.wires c.outputs built.few_wires built.output_widths built.few_outputs)) rest.inner)) in
    let read : lines (canonical c) ≡ lines_of c =
    ap lines (sym (canonical_lines c))
    ∙ lines_ended (line_in (sizes_words c)) (line_in (widths_words c.inputs) ∷ line_in (widths_words c.outputs) ∷ map (λ g. line_in (gate_words g)) c.gates) inner in
    let count : length (lines (canonical c)) ≡ length c.gates + 3 = ap length read ∙ (let m = length-map c.gates (λ (g : Gate). line_in (gate_words g)) in omega arith) in
    let r = circuits (length (lines (canonical c))) in
    let all = lead_all (length (lines (canonical c))) c circuit in
    let from : Lead r (known (length (lines (canonical c))) Start) (lines_of c) (known 0 (body c c.gates)) =
    subst (λ (n : ℕ). Lead r (known n Start) (lines_of c) (known 0 (body c c.gates))) (sym count) all in
    record {
      end = known 0 (body c c.gates);
      lead = subst (λ (ls : List Text). Lead r (known (length (lines (canonical c))) Start) ls (known 0 (body c c.gates))) (sym read) from;
      whole = refl;
    }

-- a text that is the canonical one of a circuit reads as it
pub text_reads_back : (c : Circuit) (text : Text) → IsCircuit c → text ≡ canonical c → Reads text c
text_reads_back c text circuit is = subst (λ (t : Text). Reads t c) (sym is) (reads_back c circuit)
