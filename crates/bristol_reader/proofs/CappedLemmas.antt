-- Lines say the same where their numbers are kept in 64 bits.
use Rattle.std.proofs.Common.{ℕ, ◌≡◌, ◌<◌, ◌≤◌, ◌+◌, ◌-◌, Bool, true, false, ◌&&◌, nat_lt, List, [], ◌∷◌, length, take, drop, map, Option, Some, None, Result, Ok, Err, refl, sym, ◌∙◌, ap, subst, cond, suc, not, arith, ◌⊎◌, inl, inr}
use Rattle.std.specs.Prelude.{◌==◌, nat_le, sum, option_map, option_and_then}
use Rattle.std.specs.List.{list_all}
use Rattle.std.proofs.lemmas.Bool.{and_parts, lt-ltb, le-ltb, ltb-true, le-leb, lt-leb, leb-true, eq-eqb, eqb-true, ne_eqb, cases_lt, cases_eq}
use Rattle.std.proofs.lemmas.List.{length-map, length-take, take-map, drop-map}
use Rattle.std.proofs.lemmas.List.Sums.{sum_by-cons}
use Rattle.mot_base.specs.Limits.{most_statements, most_wires}
use Rattle.bristol_reader.specs.declared.kind.BristolKind.{BristolKind}
use Rattle.bristol_reader.specs.declared.cause.BristolCause.{BristolCause}
use Rattle.bristol_reader.specs.declared.cause.BristolCause.TheVariants.{Header, TooMany, Counts, GateName, Arity, WireRange, UsedBeforeSet}
use Rattle.bristol_reader.specs.Kinds.{is_arity, is_constant, kind_of}
use Rattle.bristol_reader.specs.Circuit.{Gate, Circuit, Sizes, Progress}
use Rattle.bristol_reader.specs.Line.{numbers_of, decimal_of, input_bound, is_in_range, are_ins_set, gate_used, added, adds_numbers, adds, last_word, front_words}
use Rattle.bristol_reader.specs.Grammar.{are_few, sizes_in, widths_in, sizes_said, widths_said}
use Rattle.text_lines.specs.declared.cause.LineError.{LineError}
use Rattle.text_lines.specs.Gives.{Gives}
use Rattle.bristol_reader.specs.Stored.{capped, sizes_kept, widths_kept, adds_kept, adds_words}
use Rattle.text_lines.specs.Text.{Text}
use Rattle.text_lines.specs.Chain.{◌>>=◌, or_cause, unless}

-- ---- one number

abbrev bound : ℕ
bound = 18446744073709551615

small : (n : ℕ) → n < bound → capped n ≡ n
small n h = omega arith

-- a number is below a limit as what is kept of it is
below_capped : (n limit : ℕ) → limit < bound → nat_lt (capped n) limit ≡ nat_lt n limit
below_capped n limit h = elim (cases_lt n limit) [
  | inl low ↦ lt-ltb (capped n) limit (omega arith) ∙ sym (lt-ltb n limit low)
  | inr high ↦ le-ltb (capped n) limit (omega arith) ∙ sym (le-ltb n limit high)
]

most_capped : (n limit : ℕ) → limit < bound → nat_le (capped n) limit ≡ nat_le n limit
most_capped n limit h = elim (cases_lt limit n) [
  | inl high ↦ lt-leb (capped n) limit (omega arith) ∙ sym (lt-leb n limit high)
  | inr low ↦ le-leb (capped n) limit (omega arith) ∙ sym (le-leb n limit low)
]

is_capped : (limit n : ℕ) → limit < bound → (limit == capped n) ≡ (limit == n)
is_capped limit n h = elim (cases_eq limit n) [
  | inl same ↦ eq-eqb limit (capped n) (omega arith) ∙ sym (eq-eqb limit n same)
  | inr other ↦ ne_eqb limit (capped n) (λ e. other (omega arith)) ∙ sym (ne_eqb limit n other)
]

-- ---- several numbers

all_below_capped : (limit : ℕ) (ns : List ℕ) → limit < bound → list_all (λ n. nat_lt n limit) (map capped ns) ≡ list_all (λ n. nat_lt n limit) ns
all_below_capped limit [] h = refl
all_below_capped limit (n ∷ ns) h =
    ap (λ (b : Bool). b && list_all (λ m. nat_lt m limit) (map capped ns)) (below_capped n limit h)
    ∙ ap (λ (b : Bool). nat_lt n limit && b) (all_below_capped limit ns h)

pub all_small : (limit : ℕ) (ns : List ℕ) → limit < bound → list_all (λ n. nat_lt n limit) ns ≡ true → map capped ns ≡ ns
all_small limit [] h e = refl
all_small limit (n ∷ ns) h e =
    let tests = and_parts (nat_lt n limit) _ e in
    let below = ltb-true n limit tests.0 in
    ap (λ (m : ℕ). m ∷ map capped ns) (small n (omega arith)) ∙ ap (λ (ms : List ℕ). n ∷ ms) (all_small limit ns h tests.1)

positive_one : (n : ℕ) → nat_le 1 (capped n) ≡ nat_le 1 n
positive_one n = elim (cases_lt n 1) [
  | inl none ↦ lt-leb 1 (capped n) (omega arith) ∙ sym (lt-leb 1 n none)
  | inr some ↦ le-leb 1 (capped n) (omega arith) ∙ sym (le-leb 1 n some)
]

positive_capped : (ns : List ℕ) → list_all (λ n. nat_le 1 n) (map capped ns) ≡ list_all (λ n. nat_le 1 n) ns
positive_capped [] = refl
positive_capped (n ∷ ns) =
    ap (λ (b : Bool). b && list_all (λ m. nat_le 1 m) (map capped ns)) (positive_one n)
    ∙ ap (λ (b : Bool). nat_le 1 n && b) (positive_capped ns)

sum_first : (n : ℕ) (ns : List ℕ) → sum (n ∷ ns) ≡ n + sum ns
sum_first n ns = sum_by-cons (λ x. x) n ns

-- either the sum is small, and all numbers are kept as they are, or both sums are great
sums_capped : (limit : ℕ) (ns : List ℕ) → limit < bound → ((sum ns ≤ limit) × (map capped ns ≡ ns)) ⊎ ((limit < sum ns) × (limit < sum (map capped ns)))
sums_capped limit [] h = inl (omega arith, refl)
sums_capped limit (n ∷ ns) h =
    let whole = sum_first n ns in
    let kept = sum_first (capped n) (map capped ns) in
    elim (cases_lt limit n) [
      | inl high ↦ inr (omega arith, omega arith)
      | inr low ↦ (elim (sums_capped (limit - n) ns (omega arith)) [
        | inl p ↦ inl (
          (let few = p.0 in omega arith),
          ap (λ (m : ℕ). m ∷ map capped ns) (small n (omega arith)) ∙ ap (λ (ms : List ℕ). n ∷ ms) p.1,
        )
        | inr p ↦ inr ((let a = p.0 in omega arith), (let b = p.1 in omega arith))
      ])
    ]

-- ---- the first header line

few_capped : (gates wires : ℕ) → are_few (record { gates = capped gates; wires = capped wires }) ≡ are_few (record { gates = gates; wires = wires })
few_capped gates wires =
    ap (λ (b : Bool). b && nat_le (capped wires) most_wires) (most_capped gates most_statements (omega arith))
    ∙ ap (λ (b : Bool). nat_le gates most_statements && b) (most_capped wires most_wires (omega arith))

abbrev sizes_then : Bool → Sizes → Bool → Result Sizes BristolCause
sizes_then ends sizes few = unless Header (not ends) >>= (λ u. unless TooMany few >>= (λ v. Ok sizes))

same_few : (ends b : Bool) (gates wires : ℕ) → are_few (record { gates = gates; wires = wires }) ≡ b → sizes_then ends (record { gates = capped gates; wires = capped wires }) b ≡ sizes_then ends (record { gates = gates; wires = wires }) b
same_few true b gates wires h = refl
same_few false false gates wires h = refl
same_few false true gates wires h =
    let tests = and_parts (nat_le gates most_statements) (nat_le wires most_wires) h in
    let g = leb-true gates most_statements tests.0 in
    let w = leb-true wires most_wires tests.1 in
    ap (λ (n : ℕ). Ok (record { gates = n; wires = capped wires })) (small gates (omega arith))
    ∙ ap (λ (n : ℕ). Ok (record { gates = gates; wires = n })) (small wires (omega arith))

sizes_capped : (ends : Bool) (ns : List ℕ) → sizes_in ends (map capped ns) ≡ sizes_in ends ns
unfolding sizes_in
sizes_capped ends [] = refl
sizes_capped ends (a ∷ []) = refl
sizes_capped ends (a ∷ b ∷ []) =
    ap (sizes_then ends (record { gates = capped a; wires = capped b })) (few_capped a b)
    ∙ same_few ends _ a b refl
sizes_capped ends (a ∷ b ∷ d ∷ ns) = refl

-- ---- the others

abbrev widths_then : Bool → List ℕ → Bool → Result (List ℕ) BristolCause
widths_then ends widths few = unless Header (not ends) >>= (λ u. unless Counts few >>= (λ v. Ok widths))

no_widths : (ends : Bool) (a b : List ℕ) → widths_then ends a false ≡ widths_then ends b false
no_widths true a b = refl
no_widths false a b = refl

same_widths : (ends : Bool) (wires : ℕ) (widths : List ℕ) → wires < bound → widths_then ends (map capped widths) (nat_le (sum (map capped widths)) wires) ≡ widths_then ends widths (nat_le (sum widths) wires)
same_widths ends wires widths h = elim (sums_capped wires widths h) [
  | inl p ↦ ap (λ (ws : List ℕ). widths_then ends ws (nat_le (sum ws) wires)) p.1
  | inr p ↦ ap (widths_then ends (map capped widths)) (lt-leb _ wires p.1) ∙ no_widths ends (map capped widths) widths ∙ sym (ap (widths_then ends widths) (lt-leb _ wires p.0))
]

chosen_widths : (ends : Bool) (wires : ℕ) (b : Bool) (widths : List ℕ) → wires < bound → (or_cause Header (cond b (Some (map capped widths)) None) >>= (λ ws. widths_then ends ws (nat_le (sum ws) wires))) ≡ (or_cause Header (cond b (Some widths) None) >>= (λ ws. widths_then ends ws (nat_le (sum ws) wires)))
chosen_widths ends wires true widths h = same_widths ends wires widths h
chosen_widths ends wires false widths h = refl

widths_capped : (ends : Bool) (wires : ℕ) (ns : List ℕ) → wires < bound → length ns < bound → widths_in ends wires (map capped ns) ≡ widths_in ends wires ns
unfolding widths_in
widths_capped ends wires [] h few = refl
widths_capped ends wires (count ∷ widths) h few =
    let tests : (length (map capped widths) == capped count && list_all (λ n. nat_le 1 n) (map capped widths)) ≡ (length widths == count && list_all (λ n. nat_le 1 n) widths) =
    ap (λ (n : ℕ). n == capped count && list_all (λ m. nat_le 1 m) (map capped widths)) (length-map widths capped)
    ∙ ap (λ (b : Bool). b && list_all (λ m. nat_le 1 m) (map capped widths)) (is_capped (length widths) count (omega arith))
    ∙ ap (λ (b : Bool). length widths == count && b) (positive_capped widths) in
    ap (λ (b : Bool). or_cause Header (cond b (Some (map capped widths)) None) >>= (λ ws. widths_then ends ws (nat_le (sum ws) wires))) tests
    ∙ chosen_widths ends wires _ widths h

-- ---- a gate

abbrev capped_gate : Gate → Gate
capped_gate g = record { kind = g.kind; ins = map capped g.ins; outs = map capped g.outs }

abbrev used_then : Circuit → Gate → Bool → Result Gate BristolCause
used_then c g range = unless WireRange range >>= (λ u. unless UsedBeforeSet (are_ins_set c g) >>= (λ v. Ok g))

bound_small : (b : Bool) (wires : ℕ) → wires < bound → cond b 2 wires < bound
bound_small true wires h = omega arith
bound_small false wires h = h

range_capped : (wires : ℕ) (g : Gate) → wires < bound → is_in_range wires (capped_gate g) ≡ is_in_range wires g
range_capped wires g h =
    ap (λ (b : Bool). b && list_all (λ w. nat_lt w wires) (map capped g.outs)) (all_below_capped (input_bound g.kind wires) g.ins (bound_small (is_constant g.kind) wires h))
    ∙ ap (λ (b : Bool). list_all (λ x. nat_lt x (input_bound g.kind wires)) g.ins && b) (all_below_capped wires g.outs h)

abbrev gate_with : Gate → List ℕ → List ℕ → Gate
gate_with g ins outs = record { kind = g.kind; ins = ins; outs = outs }

same_gate : (wires : ℕ) (g : Gate) → wires < bound → is_in_range wires g ≡ true → capped_gate g ≡ g
same_gate wires g h range =
    let tests = and_parts (list_all (λ x. nat_lt x (input_bound g.kind wires)) g.ins) (list_all (λ w. nat_lt w wires) g.outs) range in
    ap (λ (xs : List ℕ). gate_with g xs (map capped g.outs)) (all_small (input_bound g.kind wires) g.ins (bound_small (is_constant g.kind) wires h) tests.0)
    ∙ ap (λ (xs : List ℕ). gate_with g g.ins xs) (all_small wires g.outs h tests.1)

same_used : (c : Circuit) (g : Gate) (b : Bool) → c.wires < bound → is_in_range c.wires g ≡ b → used_then c (capped_gate g) b ≡ used_then c g b
same_used c g true h range = ap (λ (k : Gate). used_then c k true) (same_gate c.wires g h range)
same_used c g false h range = refl

used_capped : (c : Circuit) (g : Gate) → c.wires < bound → used_then c (capped_gate g) (is_in_range c.wires (capped_gate g)) ≡ used_then c g (is_in_range c.wires g)
used_capped c g h = ap (used_then c (capped_gate g)) (range_capped c.wires g h) ∙ same_used c g _ h refl

abbrev then_used : Circuit → Option Gate → Result Gate BristolCause
then_used c o = or_cause Arity o >>= (λ g. used_then c g (is_in_range c.wires g))

chosen_used : (c : Circuit) (b : Bool) (g : Gate) → c.wires < bound → then_used c (cond b (Some (capped_gate g)) None) ≡ then_used c (cond b (Some g) None)
chosen_used c true g h = used_capped c g h
chosen_used c false g h = refl

stated_capped : (c : Circuit) (kind : BristolKind) (ins outs : ℕ) (wires : List ℕ) (b : Bool) → c.wires < bound → (length wires == ins + outs) ≡ b → length wires < bound →
    then_used c (cond (b && is_arity kind (capped ins) (capped outs)) (Some (record { kind = kind; ins = take (capped ins) (map capped wires); outs = drop (capped ins) (map capped wires) })) None)
    ≡ then_used c (cond (b && is_arity kind ins outs) (Some (record { kind = kind; ins = take ins wires; outs = drop ins wires })) None)
stated_capped c kind ins outs wires false h count few = refl
stated_capped c kind ins outs wires true h count few =
    let all = eqb-true (length wires) (ins + outs) count in
    let i : capped ins ≡ ins = small ins (omega arith) in
    let o : capped outs ≡ outs = small outs (omega arith) in
    ap (λ (n : ℕ). then_used c (cond (is_arity kind n (capped outs)) (Some (record { kind = kind; ins = take n (map capped wires); outs = drop n (map capped wires) })) None)) i
    ∙ ap (λ (n : ℕ). then_used c (cond (is_arity kind ins n) (Some (record { kind = kind; ins = take ins (map capped wires); outs = drop ins (map capped wires) })) None)) o
    ∙ ap (λ (xs : List ℕ). then_used c (cond (is_arity kind ins outs) (Some (record { kind = kind; ins = xs; outs = drop ins (map capped wires) })) None)) (take-map capped ins wires)
    ∙ ap (λ (xs : List ℕ). then_used c (cond (is_arity kind ins outs) (Some (record { kind = kind; ins = map capped (take ins wires); outs = xs })) None)) (drop-map capped ins wires)
    ∙ chosen_used c (is_arity kind ins outs) (record { kind = kind; ins = take ins wires; outs = drop ins wires }) h

count_capped : (n ins outs : ℕ) → n < bound → (n == capped ins + capped outs) ≡ (n == ins + outs)
count_capped n ins outs h = elim (cases_eq n (ins + outs)) [
  | inl same ↦ eq-eqb n (capped ins + capped outs) (omega arith) ∙ sym (eq-eqb n (ins + outs) same)
  | inr other ↦ ne_eqb n (capped ins + capped outs) (λ e. other (omega arith)) ∙ sym (ne_eqb n (ins + outs) other)
]

gate_capped : (c : Circuit) (kind : BristolKind) (ns : List ℕ) → c.wires < bound → length ns < bound → gate_used c kind (map capped ns) ≡ gate_used c kind ns
unfolding gate_used
gate_capped c kind [] h few = refl
gate_capped c kind (n ∷ []) h few = refl
gate_capped c kind (ins ∷ outs ∷ wires) h few =
    let count : (length (map capped wires) == capped ins + capped outs) ≡ (length wires == ins + outs) =
    ap (λ (n : ℕ). n == capped ins + capped outs) (length-map wires capped) ∙ count_capped (length wires) ins outs (omega arith) in
    ap (λ (b : Bool). then_used c (cond (b && is_arity kind (capped ins) (capped outs)) (Some (record { kind = kind; ins = take (capped ins) (map capped wires); outs = drop (capped ins) (map capped wires) })) None)) count
    ∙ stated_capped c kind ins outs wires _ h refl (omega arith)

-- ---- words

numbers_first : (o : Option ℕ) (rest : Option (List ℕ)) (ns : List ℕ) (n : ℕ) → option_and_then (λ m. option_map (λ ms. m ∷ ms) rest) o ≡ Some ns → ((ms : List ℕ) → rest ≡ Some ms → length ms ≡ n) → length ns ≡ suc n
numbers_first None rest ns n h all = cc
numbers_first (Some m) None ns n h all = cc
numbers_first (Some m) (Some ms) ns n h all = let e : m ∷ ms ≡ ns = cc in ap length (sym e) ∙ ap suc (all ms refl)

numbers_count : (ws : List Text) (ns : List ℕ) → numbers_of ws ≡ Some ns → length ns ≡ length ws
numbers_count [] ns h = let e : [] ≡ ns = cc in ap length (sym e)
numbers_count (w ∷ ws) ns h = numbers_first (decimal_of w) (numbers_of ws) ns (length ws) h (numbers_count ws)

capped_then : {Z : Type 0} (cause : BristolCause) (f : List ℕ → Result Z BristolCause) (o : Option (List ℕ)) → ((ns : List ℕ) → o ≡ Some ns → f (map capped ns) ≡ f ns) → (or_cause cause (option_map (map capped) o) >>= f) ≡ (or_cause cause o >>= f)
capped_then cause f None h = refl
capped_then cause f (Some ns) h = h ns refl

pub sizes_same : (ends : Bool) (ws : List Text) → sizes_kept ends ws ≡ sizes_said ends ws
unfolding sizes_kept sizes_said
sizes_same ends ws = capped_then Header (sizes_in ends) (numbers_of ws) (λ ns h. sizes_capped ends ns)

pub widths_same : (ends : Bool) (wires : ℕ) (ws : List Text) → wires < bound → length ws < bound → widths_kept ends wires ws ≡ widths_said ends wires ws
unfolding widths_kept widths_said
widths_same ends wires ws h few = capped_then Header (widths_in ends wires) (numbers_of ws) (λ ns e. let count = numbers_count ws ns e in widths_capped ends wires ns h (omega arith))

kind_then : {X Z : Type 0} (r : Result X BristolCause) (f g : X → Result Z BristolCause) → ((x : X) → f x ≡ g x) → (r >>= f) ≡ (r >>= g)
kind_then (Ok x) f g h = h x
kind_then (Err e) f g h = refl

numbers_capped : (p : Progress) (kind : BristolKind) (ns : List ℕ) → p.circuit.wires < bound → length ns < bound → adds_numbers p kind (map capped ns) ≡ adds_numbers p kind ns
unfolding adds_numbers
numbers_capped p kind ns h few = ap (λ (r : Result Gate BristolCause). r >>= added p) (gate_capped p.circuit kind ns h few)

pub adds_same : (p : Progress) (ws : List Text) → p.circuit.wires < bound → length ws < bound → adds_kept p ws ≡ adds p ws
unfolding adds_kept adds_words adds
adds_same p ws h few =
    let front : length (front_words ws) ≤ length ws = simp length-take (omega arith) in
    kind_then (or_cause GateName (kind_of (last_word ws))) _ _ (λ kind. capped_then Arity (adds_numbers p kind) (numbers_of (front_words ws)) (λ ns e. let count = numbers_count (front_words ws) ns e in numbers_capped p kind ns h (omega arith)))

-- what is returned is what is read, by whichever of two equal readings
pub gives_same : {X Z : Type 0} (view : X → Z) (r : Result X (LineError BristolCause)) (a b : Result Z BristolCause) → a ≡ b → Gives view r a → Gives view r b
gives_same {X} {Z} view r a b e h = let P : Result Z BristolCause → Type 0 = λ read. Gives view r read in subst P e h
