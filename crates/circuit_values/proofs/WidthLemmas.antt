-- The bits that lines give an input are as many as its width.
use Rattle.std.proofs.Common.{ℕ, ◌≡◌, Bool, true, false, List, [], ◌∷◌, length, replicate, Option, Some, None, Result, Ok, Err, zero, suc, refl, sym, ◌∙◌, ap, subst, cond, arith, ◌⊎◌, inl, inr}
use Rattle.std.specs.Prelude.{IfOk, map, slice_index_or, slice_get, slice_set, option_map, option_and_then}
use Rattle.std.specs.List.{list_all}
use Rattle.std.specs.Option.{unwrap_or}
use Rattle.mot_base.specs.declared.Party.{Party}
use Rattle.share_types.specs.Bits.{bits}
use Rattle.share_types.proofs.BitsLemmas.{length-bits}
use Rattle.circuit_values.specs.declared.cause.ValuesCause.TheVariants.{NameUnknown, Missing, Twice, TooWide, Word}
use Rattle.circuit_tables.specs.Table.{Input}
use Rattle.circuit_values.specs.Values.{values, behind, behind_words, behind_content, assignment_of, place_asked, is_free, width_at, literal_fits, literal_number, value_of, values_of, ReadsValues}
use Rattle.circuit_tables.specs.Values.{is_owned, HaveWidths}
use Rattle.circuit_values.proofs.PlaceLemmas.{place_asked-at}
use Rattle.text_lines.specs.Text.{Text, is_allowed, line_words, lines}
use Rattle.text_lines.specs.Chain.{or_cause, unless}
use Rattle.text_lines.specs.LineReader.{Lead}
use Rattle.text_lines.proofs.ChainLemmas.{ok_then, or_some}

-- the bits of each input are as many as its width, and only those of inputs that are asked for are given
pub record Fit (inputs : List Input) (owner : Option Party) (given : List (Option (List Bool))) : Type 0 where
  pub count : length given ≡ length inputs
  pub each : (at : ℕ) (x : Input) (value : List Bool) → slice_get inputs at ≡ Some x → slice_get given at ≡ Some (Some value) → (length value ≡ x.width) × (is_owned owner x.party ≡ true)

none_at : (n at : ℕ) (value : List Bool) → slice_get (replicate {A = Option (List Bool)} n None) at ≡ Some (Some value) → ⊥
none_at zero at value h = cc
none_at (suc n) zero value h = cc
none_at (suc n) (suc at) value h = none_at n at value h

count_none : (n : ℕ) → length (replicate {A = Option (List Bool)} n None) ≡ n
count_none zero = refl
count_none (suc n) = ap suc (count_none n)

start_fits : (inputs : List Input) (owner : Option Party) → Fit inputs owner (replicate (length inputs) None)
start_fits inputs owner = record { count = count_none (length inputs); each = λ at x value there given. absurd (none_at (length inputs) at value given) }

-- what is set at a place
set_count : {X : Type 0} (xs : List X) (i : ℕ) (x : X) → length (slice_set xs i x) ≡ length xs
set_count [] i x = refl
set_count (y ∷ xs) zero x = refl
set_count (y ∷ xs) (suc i) x = ap suc (set_count xs i x)

set_at : {X : Type 0} (xs : List X) (i j : ℕ) (x y : X) → slice_get (slice_set xs i x) j ≡ Some y → ((i ≡ j) × (x ≡ y)) ⊎ (slice_get xs j ≡ Some y)
set_at [] i j x y h = inr h
set_at (z ∷ xs) zero zero x y h = inl (refl, (let e : x ≡ y = cc in e))
set_at (z ∷ xs) zero (suc j) x y h = inr h
set_at (z ∷ xs) (suc i) zero x y h = inr h
set_at (z ∷ xs) (suc i) (suc j) x y h = elim (set_at xs i j x y h) [ inl p ↦ inl (ap suc p.0, p.1) | inr p ↦ inr p ]

set_fits : (inputs : List Input) (owner : Option Party) (given : List (Option (List Bool))) (name : Text) (at n : ℕ) → Fit inputs owner given → place_asked owner inputs name ≡ Some at → Fit inputs owner (slice_set given at (Some (bits (width_at inputs at) n)))
set_fits inputs owner given name at n fit found =
    let here = place_asked-at owner inputs name at found in
    record {
      count = set_count given at (Some (bits (width_at inputs at) n)) ∙ fit.count;
      each = λ i x value there set. elim (set_at given at i (Some (bits (width_at inputs at) n)) (Some value) set) [
        | inl p ↦ (let P : ℕ → Type 0 = λ k. slice_get inputs k ≡ Some here.x in
            let mine = subst P p.0 here.there in
            let same : here.x ≡ x = (let e = sym mine ∙ there in cc) in
            let bits_are : bits (width_at inputs at) n ≡ value = (let e = p.1 in cc) in
            let width : width_at inputs at ≡ here.x.width = ap (λ (o : Option Input). unwrap_or (option_map (λ y. y.width) o) 0) here.there in
            (ap (λ (v : List Bool). length v) (sym bits_are) ∙ length-bits (width_at inputs at) n ∙ width ∙ ap (λ (y : Input). y.width) same, ap (λ (y : Input). is_owned owner y.party) (sym same) ∙ here.owned))
        | inr p ↦ fit.each i x value there p
      ];
    }

words_fit : (inputs : List Input) (owner : Option Party) (given next : List (Option (List Bool))) (words : List Text) → Fit inputs owner given → behind_words inputs owner given words ≡ Ok next → Fit inputs owner next
unfolding behind_words
words_fit inputs owner given next words fit h =
    let a = ok_then (or_cause Word (assignment_of words)) _ next h in
    let at = ok_then (or_cause NameUnknown (place_asked owner inputs a.0.name)) _ next a.2 in
    let free = ok_then (unless Twice (is_free given at.0)) _ next at.2 in
    let fits = ok_then (unless TooWide (literal_fits a.0.literal (width_at inputs at.0))) _ next free.2 in
    let same : slice_set given at.0 (Some (bits (width_at inputs at.0) (literal_number a.0.literal))) ≡ next = (let e = fits.2 in cc) in
    subst (Fit inputs owner) same (set_fits inputs owner given a.0.name at.0 (literal_number a.0.literal) fit (or_some NameUnknown _ at.0 at.1))

content_fits : (inputs : List Input) (owner : Option Party) (given next : List (Option (List Bool))) (words : List Text) → Fit inputs owner given → behind_content inputs owner given words ≡ Ok next → Fit inputs owner next
content_fits inputs owner given next [] fit h = subst (Fit inputs owner) (let e : given ≡ next = cc in e) fit
content_fits inputs owner given next (word ∷ words) fit h = words_fit inputs owner given next (word ∷ words) fit h

line_fits : (inputs : List Input) (owner : Option Party) (given next : List (Option (List Bool))) (line : Text) → Fit inputs owner given → behind inputs owner given line ≡ Ok next → Fit inputs owner next
unfolding behind
line_fits inputs owner given next line fit h =
    let text = ok_then (unless Word (list_all is_allowed line)) _ next h in
    content_fits inputs owner given next (line_words line) fit text.2

lead_fits : (inputs : List Input) (owner : Option Party) (ls : List Text) (from to : List (Option (List Bool))) → Fit inputs owner from → Lead (values inputs owner) from ls to → Fit inputs owner to
lead_fits inputs owner [] from to fit lead = subst (Fit inputs owner) lead fit
lead_fits inputs owner (line ∷ ls) from to fit lead = lead_fits inputs owner ls lead.0 to (line_fits inputs owner from lead.0 line fit lead.1) lead.2

-- the values of bits that fit
then_values : (o : Option (List Bool)) (rest : Option (List (List Bool))) (v : List (List Bool)) → option_and_then (λ value. option_map (λ more. value ∷ more) rest) o ≡ Some v → (value : List Bool) × (more : List (List Bool)) × (o ≡ Some value) × (rest ≡ Some more) × (value ∷ more ≡ v)
then_values None rest v h = cc
then_values (Some value) None v h = cc
then_values (Some value) (Some more) v h = (value, more, refl, refl, (let e : value ∷ more ≡ v = cc in e))

value_width : (owner : Option Party) (x : Input) (o : Option (List Bool)) (value : List Bool) → ((bits : List Bool) → o ≡ Some bits → (length bits ≡ x.width) × (is_owned owner x.party ≡ true)) → value_of owner x o ≡ Some value → length value ≡ cond (is_owned owner x.party) x.width 0
value_width owner x (Some bits) value fit h =
    let facts = fit bits refl in
    let same : bits ≡ value = cc in
    ap (λ (v : List Bool). length v) (sym same) ∙ facts.0 ∙ sym (ap (λ b. cond b x.width 0) facts.1)
value_width owner x None value fit h = unasked (is_owned owner x.party) h
  where
    unasked : (b : Bool) → cond b None (Some []) ≡ Some value → length value ≡ cond b x.width 0
    unasked true h = cc
    unasked false h = let same : [] ≡ value = cc in ap (λ (v : List Bool). length v) (sym same)

fit_rest : (owner : Option Party) (x : Input) (xs : List Input) (o : Option (List Bool)) (given : List (Option (List Bool))) → Fit (x ∷ xs) owner (o ∷ given) → Fit xs owner given
fit_rest owner x xs o given fit = record { count = (let n = fit.count in omega arith); each = λ at. fit.each (suc at) }

all_widths : (owner : Option Party) (xs : List Input) (given : List (Option (List Bool))) (v : List (List Bool)) → Fit xs owner given → values_of owner xs given ≡ Some v → HaveWidths owner xs v
all_widths owner [] given v fit h = let none : [] ≡ v = cc in subst (HaveWidths owner []) none (record { count = refl; each = λ at x value there has. cc })
all_widths owner (x ∷ xs) [] v fit h = cc
all_widths owner (x ∷ xs) (o ∷ given) v fit h =
    let parts = then_values (value_of owner x o) (values_of owner xs given) v h in
    let rest = all_widths owner xs given parts.1 (fit_rest owner x xs o given fit) parts.3 in
    let first = value_width owner x o parts.0 (λ bits e. fit.each 0 x bits refl (ap Some e)) parts.2 in
    subst (HaveWidths owner (x ∷ xs)) parts.4 (record { count = ap suc rest.count; each = at_each owner x xs parts.0 parts.1 first rest })
  where
    at_each : (owner : Option Party) (x : Input) (xs : List Input) (value : List Bool) (more : List (List Bool)) → length value ≡ cond (is_owned owner x.party) x.width 0 → HaveWidths owner xs more → (at : ℕ) (y : Input) (bits : List Bool) → slice_get (x ∷ xs) at ≡ Some y → slice_get (value ∷ more) at ≡ Some bits → length bits ≡ cond (is_owned owner y.party) y.width 0
    at_each owner x xs value more first rest zero y bits there has =
        let input : x ≡ y = cc in
        let same : value ≡ bits = cc in
        ap (λ (v : List Bool). length v) (sym same) ∙ first ∙ ap (λ (z : Input). cond (is_owned owner z.party) z.width 0) input
    at_each owner x xs value more first rest (suc at) y bits there has = rest.each at y bits there has

pub read_widths : (inputs : List Input) (owner : Option Party) (text : Text) (v : List (List Bool)) → ReadsValues inputs owner text v → HaveWidths owner inputs v
read_widths inputs owner text v reads =
    all_widths owner inputs reads.end v (lead_fits inputs owner (lines text) (replicate (length inputs) None) reads.end (start_fits inputs owner) reads.lead) (or_some Missing _ v reads.whole)

pub if_read : {E : Type 0} (inputs : List Input) (owner : Option Party) (text : Text) (r : Result (List (List Bool)) E) → IfOk r (λ v. ReadsValues inputs owner text v) → IfOk r (λ v. HaveWidths owner inputs v)
if_read inputs owner text (Ok v) reads = read_widths inputs owner text v reads
if_read inputs owner text (Err e) reads = tt

-- the bits of an input by its width, where all inputs are asked for
value_at : (inputs : List Input) (v : List (List Bool)) (i w : ℕ) → length v ≡ length inputs → ((at : ℕ) (x : Input) (value : List Bool) → slice_get inputs at ≡ Some x → slice_get v at ≡ Some value → length value ≡ x.width) → slice_get (map (λ x. x.width) inputs) i ≡ Some w → length (slice_index_or v i []) ≡ w
value_at [] v i w count each h = cc
value_at (x ∷ inputs) [] i w count each h = absurd (omega arith)
value_at (x ∷ inputs) (value ∷ v) zero w count each h = each 0 x value refl refl ∙ (let e : x.width ≡ w = cc in e)
value_at (x ∷ inputs) (value ∷ v) (suc i) w count each h = value_at inputs v i w (omega arith) (λ at. each (suc at)) h

pub value_width_at : (inputs : List Input) (v : List (List Bool)) (i w : ℕ) → HaveWidths None inputs v → slice_get (map (λ x. x.width) inputs) i ≡ Some w → length (slice_index_or v i []) ≡ w
value_width_at inputs v i w wide h = value_at inputs v i w wide.count wide.each h
