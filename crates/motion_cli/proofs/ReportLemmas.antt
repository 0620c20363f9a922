-- The lines of outputs, one after another.
use Rattle.std.proofs.Common.{ℕ, zero, suc, ◌≡◌, ◌<◌, ◌≤◌, ◌+◌, ◌-◌, ◌*◌, inl, inr, map, Bool, true, false, cond, List, [], ◌∷◌, ◌++◌, length, take, drop, arith, Option, Some, None, refl, sym, ◌∙◌, ap, subst, add-one, append_assoc}
use Rattle.std.specs.Prelude.{codes, slice_get, IfSome, All}
use Rattle.std.specs.List.{AllByRecursion}
use Rattle.std.proofs.lemmas.Bool.{cases_lt}
use Rattle.std.proofs.lemmas.Option.{slice_get_within}
use Rattle.mot_base.specs.declared.Party.{Party}
use Rattle.mot_base.specs.Limits.{most_width}
use Rattle.std.specs.Fmt.{digits}
use Rattle.std.proofs.lemmas.List.{append-nil, length-append, drop-drop, length-drop, take_all}
use Rattle.share_types.specs.Bits.{number}
use Rattle.circuit_tables.specs.Table.{Output, Told, asked, is_asked, AreCut}
use Rattle.mot_base.proofs.Lists.{take_next, some_at}
use Rattle.text_lines.specs.Text.{Text}
use Rattle.gate_tasks.specs.declared.report.PartyReport.{PartyReport}
use Rattle.any_circuit.specs.declared.notation.Notation.{Notation}
use Rattle.any_circuit.specs.declared.notation.Notation.TheVariants.{Decimal, Hexadecimal}
use Rattle.motion_cli.specs.Report.{hexadecimal_digits, PartyRun, output_line, output_lines, run_report, runs_report}
use Rattle.any_circuit.specs.Notation.{AreShort, AreNarrow}
use Rattle.command_ends.specs.Outcome.{line, line_end}
use Rattle.motion_cli.specs.Run.{IsRunOf, AreRunsOf}
use Rattle.motion_cli.proofs.DealerLemmas.{length_taken}

lines-append : (notation : Notation) (xs ys : List Told) →
    output_lines notation (xs ++ ys) ≡ output_lines notation xs ++ output_lines notation ys
lines-append notation [] ys = refl
lines-append notation (x ∷ xs) ys =
    ap (λ (rest : Text). output_line notation x ++ rest) (lines-append notation xs ys)
    ∙ sym (append_assoc (output_line notation x) (output_lines notation xs) (output_lines notation ys))

report-append : (notation : Notation) (runs : List PartyRun) (run : PartyRun) →
    runs_report notation (runs ++ run ∷ []) ≡ runs_report notation runs ++ run_report notation run
report-append notation [] run = append-nil (run_report notation run)
report-append notation (r ∷ runs) run =
    ap (λ (rest : Text). run_report notation r ++ rest) (report-append notation runs run)
    ∙ sym (append_assoc (run_report notation r) (runs_report notation runs) (run_report notation run))

found : {X : Type 0} (o : Option X) (P : X → Type 0) (x : X) → o ≡ Some x → IfSome o P → P x
found None P x e h = cc
found (Some y) P x e h = (let same : y ≡ x = cc in subst P same h)

-- one output more, behind a text
pub lines_next : (notation : Notation) (outputs : List Told) (at : ℕ) (start before after : Text) → at < length outputs →
    before ≡ start ++ output_lines notation (take at outputs) →
    IfSome (slice_get outputs at) (λ output. after ≡ before ++ output_line notation output) →
    after ≡ start ++ output_lines notation (take (at + 1) outputs)
lines_next notation outputs at start before after within kept added =
    let here = some_at outputs at within in
    let first = output_lines notation (take at outputs) in
    let line = output_line notation here.0 in
    let whole : output_lines notation (take (at + 1) outputs) ≡ first ++ line =
    ap (output_lines notation) (take_next outputs at here.0 here.1)
    ∙ (lines-append notation (take at outputs) (here.0 ∷ []) ∙ ap (λ (text : Text). first ++ text) (append-nil line)) in
    found (slice_get outputs at) (λ output. after ≡ before ++ output_line notation output) here.0 here.1 added
    ∙ (ap (λ (text : Text). text ++ line) kept
    ∙ (append_assoc start first line ∙ ap (λ (text : Text). start ++ text) (sym whole)))

-- what is written of a party, one piece after another
pub run_text : (start first second third number lines digest : Text) → first ≡ start ++ (codes "party " ++ (number ++ line_end)) →
    second ≡ first ++ lines → third ≡ second ++ (codes "digest " ++ line digest) →
    third ≡ start ++ (codes "party " ++ (number ++ (line_end ++ (lines ++ (codes "digest " ++ line digest)))))
run_text start first second third number lines digest one two three =
    let head : Text = codes "party " ++ (number ++ line_end) in
    let tail : Text = codes "digest " ++ line digest in
    three
    ∙ (ap (λ (t : Text). t ++ tail) (two ∙ ap (λ (t : Text). t ++ lines) one)
    ∙ (append_assoc (start ++ head) lines tail
    ∙ (append_assoc start head (lines ++ tail)
    ∙ ap (λ (t : Text). start ++ (codes "party " ++ t)) (append_assoc number line_end (lines ++ tail)))))

-- a text reports some runs that are those of these reports
abbrev pub ReportedTo : Notation → List Output → List PartyReport → Text → Type 0
ReportedTo notation table reports text =
    (runs : List PartyRun) × AreRunsOf table reports runs × (text ≡ runs_report notation runs)

pub none_reported : (notation : Notation) (table : List Output) → ReportedTo notation table [] []
none_reported notation table = ([], record { count = refl; each = λ p report run e f. cc }, refl)

before_last : {X : Type 0} (xs : List X) (x y : X) (at : ℕ) → slice_get (xs ++ x ∷ []) at ≡ Some y → at < length xs → slice_get xs at ≡ Some y
before_last [] x y at e h = absurd (omega (arith, h))
before_last (z ∷ xs) x y zero e h = e
before_last (z ∷ xs) x y (suc at) e h = before_last xs x y at e (omega (arith, h))

behind_last : {X : Type 0} (xs : List X) (x y : X) (at : ℕ) → slice_get (xs ++ x ∷ []) at ≡ Some y → length xs ≤ at → (at ≡ length xs) × (x ≡ y)
behind_last [] x y zero e h = (refl, (let is : Some x ≡ Some y = e in cc))
behind_last [] x y (suc zero) e h = (let no : None ≡ Some y = e in cc)
behind_last [] x y (suc (suc at)) e h = (let no : None ≡ Some y = e in cc)
behind_last (z ∷ xs) x y zero e h = absurd (omega (arith, h))
behind_last (z ∷ xs) x y (suc at) e h =
    let rest = behind_last xs x y at e (omega (arith, h)) in
    let place = rest.0 in
    (omega (arith, place), rest.1)

-- one party more
pub reported_next : (notation : Notation) (table : List Output) (reports : List PartyReport) (at : ℕ) (report : PartyReport)
    (before after : Text) → slice_get reports at ≡ Some report → ReportedTo notation table (take at reports) before →
    ((run : PartyRun) × IsRunOf table at report run × (after ≡ before ++ run_report notation run)) →
    ReportedTo notation table (take (at + 1) reports) after
reported_next notation table reports at report before after there (runs, are, text) (run, is, added) =
    (runs ++ run ∷ [], subst (λ (rs : List PartyReport). AreRunsOf table rs (runs ++ run ∷ [])) (sym next) more, whole)
  where
    next : take (at + 1) reports ≡ take at reports ++ report ∷ []
    next = take_next reports at report there

    count : length (take at reports) ≡ at
    count = length_taken at reports (let h = slice_get_within reports at report there in omega (arith, h))

    whole : after ≡ runs_report notation (runs ++ run ∷ [])
    whole = added ∙ (ap (λ (t : Text). t ++ run_report notation run) text ∙ sym (report-append notation runs run))

    more : AreRunsOf table (take at reports ++ report ∷ []) (runs ++ run ∷ [])
    more = record {
      count = length-append runs (run ∷ []) ∙ (ap (λ (n : ℕ). n + 1) are.count ∙ sym (length-append (take at reports) (report ∷ [])));
      each = each;
    }
      where
        each : (p : ℕ) (r : PartyReport) (x : PartyRun) → slice_get (take at reports ++ report ∷ []) p ≡ Some r →
            slice_get (runs ++ run ∷ []) p ≡ Some x → IsRunOf table p r x
        each p r x e f = elim (cases_lt p (length (take at reports))) as (λ _. IsRunOf table p r x) [
          | inl less ↦
              (let counts = are.count in
              are.each p r x (before_last (take at reports) report r p e less) (before_last runs run x p f (omega (arith, less, counts))))
          | inr more ↦
              (let counts = are.count in
              let first = behind_last (take at reports) report r p e more in
              let second = behind_last runs run x p f (omega (arith, more, counts)) in
              let place : at ≡ p = sym count ∙ sym first.0 in
              let P : PartyReport → Type 0 = λ q. IsRunOf table at q run in
              let Q : PartyRun → Type 0 = λ y. IsRunOf table at r y in
              let R : ℕ → Type 0 = λ n. IsRunOf table n r x in
              subst R place (subst Q second.1 (subst P first.1 is)))
        ]

-- what a party is told can be written as the table's outputs can
abbrev AreFew : List ℕ → Type 0
AreFew widths = AllByRecursion (λ n. n ≤ most_width) widths

asked_few : (party : Option Party) (os : List Output) → All (λ o. o.width ≤ most_width) os →
    AreFew (map (λ (o : Output). o.width) (asked party os))
asked_few party [] all = tt
asked_few party (o ∷ os) all =
    either (is_asked party o) (asked_few party os (λ i d h. all (suc i) d (omega (arith, h))))
  where
    either : (b : Bool) → AreFew (map (λ (o : Output). o.width) (asked party os)) →
        AreFew (map (λ (o : Output). o.width) (cond b (o ∷ asked party os) (asked party os)))
    either true rest = (all 0 o (omega arith), rest)
    either false rest = rest

few_short : (ts : List Told) → AreFew (map (λ (t : Told). length t.bits) ts) → All (λ t. length t.bits ≤ most_width) ts
few_short [] all i d h = absurd (omega (arith, h))
few_short (t ∷ ts) all zero d h = all.0
few_short (t ∷ ts) all (suc i) d h = few_short ts all.1 i d (omega (arith, h))

pub narrow_cut : (notation : Notation) (party : Option Party) (table : List Output) (bits : List Bool) (outputs : List Told) →
    AreNarrow notation table → AreCut (asked party table) bits outputs → AreShort notation outputs
narrow_cut Hexadecimal party table bits outputs narrow cut = tt
narrow_cut Decimal party table bits outputs narrow cut =
    few_short outputs (subst (λ (ns : List ℕ). AreFew ns) (sym cut.widths) (asked_few party table narrow))

-- behind a text stand the first digits of bits, of so many
abbrev pub DigitsTo : ℕ → List Bool → Text → ℕ → Text → Type 0
DigitsTo count bits start at text = text ≡ start ++ hexadecimal_digits at (drop (4 * (count - at)) bits)

-- one digit more
pub digits_next : (count at : ℕ) (bits rest : List Bool) (start before after : Text) → at < count → DigitsTo count bits start at before →
    rest ≡ drop (4 * (count - 1 - at)) bits → after ≡ before ++ digits 16 false (number (take 4 rest)) →
    DigitsTo count bits start (at + 1) after
digits_next count at bits rest start before after within kept is added =
    let here = drop (4 * (count - 1 - at)) bits in
    let last : Text = digits 16 false (number (take 4 here)) in
    let higher : drop 4 here ≡ drop (4 * (count - at)) bits =
    drop-drop 4 (4 * (count - 1 - at)) bits ∙ ap (λ (n : ℕ). drop n bits) (omega arith) in
    let whole : hexadecimal_digits (at + 1) here ≡ hexadecimal_digits at (drop (4 * (count - at)) bits) ++ last =
    ap (λ (n : ℕ). hexadecimal_digits n here) (add-one at) ∙ ap (λ (bs : List Bool). hexadecimal_digits at bs ++ last) higher in
    let place : 4 * (count - 1 - at) ≡ 4 * (count - (at + 1)) = omega arith in
    added
    ∙ (ap (λ (bs : List Bool). before ++ digits 16 false (number (take 4 bs))) is
    ∙ (ap (λ (text : Text). text ++ last) kept
    ∙ (append_assoc start (hexadecimal_digits at (drop (4 * (count - at)) bits)) last
    ∙ (ap (λ (text : Text). start ++ text) (sym whole) ∙ ap (λ (n : ℕ). start ++ hexadecimal_digits (at + 1) (drop n bits)) place))))

-- the bits from a place on
pub rest_of : (n : ℕ) (bits : List Bool) → take (length bits - n) (drop n bits) ≡ drop n bits
rest_of n bits = take_all (length bits - n) (drop n bits) (let count = length-drop n bits in omega arith)
