-- The tables of input and output values, entry by entry, and the bits that are told.
use Rattle.std.proofs.Common.{ℕ, ◌≡◌, ◌<◌, ◌≤◌, ◌+◌, ◌-◌, ◌%◌, ◌^◌, Bool, List, [], ◌∷◌, ◌++◌, length, map, take, drop, get_or, zero, suc, Some, None, refl, sym, ◌∙◌, ap, subst, arith, append_assoc, append-nil}
use Rattle.std.specs.Prelude.{slice_get, sum, codes}
use Rattle.std.specs.Fmt.{decimal}
use Rattle.std.proofs.lemmas.Fmt.{decimal_injective}
use Rattle.std.proofs.lemmas.List.{append_cancel_left, drop_more, drop_all, drop-drop, length-take-le, length-drop, length_push, take-append-drop, nil_from_length}
use Rattle.std.proofs.lemmas.List.Sums.{sum_by-cons}
use Rattle.share_types.specs.declared.receiver.Receiver.{Receiver}
use Rattle.share_types.specs.declared.receiver.Receiver.TheVariants.{All}
use Rattle.circuit_tables.specs.Table.{Input, Output, Told, AreNamedApart, AreCut}
use Rattle.circuit_tables.specs.Values.{HaveWidths}
use Rattle.bristol_reader.specs.Circuit.{Circuit}
use Rattle.bristol_reader.specs.Table.{input_name, output_name, inputs_from, outputs_from, HaveInputWidths}
use Rattle.bristol_reader.specs.Cut.{cut_from}
use Rattle.text_lines.specs.Text.{Text}

-- ---- tables

-- how far a table is filled, from what the widths that are left add
pub record FilledTo (X : Type 0) (from : ℕ → List ℕ → List X) (widths : List ℕ) (table : List X) (at : ℕ) : Type 0 where
  pub count : length table ≡ at
  pub rest : table ++ from at (drop at widths) ≡ from 0 widths

pub filled_none : (X : Type 0) (from : ℕ → List ℕ → List X) (widths : List ℕ) → FilledTo X from widths [] 0
filled_none X from widths = record { count = refl; rest = refl }

filled_more : (X : Type 0) (from : ℕ → List ℕ → List X) (widths : List ℕ) (table after : List X) (at : ℕ) (x : X) → ((ws : List ℕ) → from at (get_or widths at 0 ∷ ws) ≡ x ∷ from (at + 1) ws) → at < length widths → FilledTo X from widths table at → after ≡ table ++ x ∷ [] → FilledTo X from widths after (at + 1)
filled_more X from widths table after at x step within to pushed = record {
  count = ap length pushed ∙ length_push table x ∙ ap (λ (n : ℕ). n + 1) to.count;
  rest =
      ap (λ (xs : List X). xs ++ from (at + 1) (drop (at + 1) widths)) pushed
      ∙ append_assoc table (x ∷ []) (from (at + 1) (drop (at + 1) widths))
      ∙ ap (λ (xs : List X). table ++ xs) (sym (step (drop (at + 1) widths)) ∙ ap (from at) (sym (drop_more widths at 0 within)))
      ∙ to.rest;
}

filled_all : (X : Type 0) (from : ℕ → List ℕ → List X) (widths : List ℕ) (table : List X) (at : ℕ) → ((n : ℕ) → from n [] ≡ []) → length widths ≤ at → FilledTo X from widths table at → table ≡ from 0 widths
filled_all X from widths table at ends past to =
    sym (append-nil table)
    ∙ ap (λ (xs : List X). table ++ xs) (sym (ap (from at) (drop_all at widths past) ∙ ends at))
    ∙ to.rest

abbrev pub InputsTo : ℕ → List ℕ → List Input → ℕ → Type 0
InputsTo parties widths table at = FilledTo Input (inputs_from parties) widths table at

pub inputs_more : (parties : ℕ) (widths : List ℕ) (table after : List Input) (at width party : ℕ) (name : Text) → at < length widths → InputsTo parties widths table at → name ≡ input_name at → party ≡ at % parties → width ≡ get_or widths at 0 → after ≡ table ++ record { name = name; party = record { 0 = party }; width = width } ∷ [] → InputsTo parties widths after (at + 1)
inputs_more parties widths table after at width party name within to n p w pushed =
    filled_more Input (inputs_from parties) widths table after at (record { name = input_name at; party = record { 0 = at % parties }; width = get_or widths at 0 }) (λ ws. refl) within to
    (pushed
    ∙ ap (λ (t : Text). table ++ record { name = t; party = record { 0 = party }; width = width } ∷ []) n
    ∙ ap (λ (q : ℕ). table ++ record { name = input_name at; party = record { 0 = q }; width = width } ∷ []) p
    ∙ ap (λ (q : ℕ). table ++ record { name = input_name at; party = record { 0 = at % parties }; width = q } ∷ []) w)

pub inputs_all : (parties : ℕ) (widths : List ℕ) (table : List Input) (at : ℕ) → length widths ≤ at → InputsTo parties widths table at → table ≡ inputs_from parties 0 widths
inputs_all parties widths table at past to = filled_all Input (inputs_from parties) widths table at (λ n. refl) past to

abbrev pub OutputsTo : List ℕ → List Output → ℕ → Type 0
OutputsTo widths table at = FilledTo Output outputs_from widths table at

pub outputs_more : (widths : List ℕ) (table after : List Output) (at width : ℕ) (name : Text) → at < length widths → OutputsTo widths table at → name ≡ output_name at → width ≡ get_or widths at 0 → after ≡ table ++ record { name = name; to = All; width = width } ∷ [] → OutputsTo widths after (at + 1)
outputs_more widths table after at width name within to n w pushed =
    filled_more Output outputs_from widths table after at (record { name = output_name at; to = All; width = get_or widths at 0 }) (λ ws. refl) within to
    (pushed
    ∙ ap (λ (t : Text). table ++ record { name = t; to = All; width = width } ∷ []) n
    ∙ ap (λ (q : ℕ). table ++ record { name = output_name at; to = All; width = q } ∷ []) w)

pub outputs_all : (widths : List ℕ) (table : List Output) (at : ℕ) → length widths ≤ at → OutputsTo widths table at → table ≡ outputs_from 0 widths
outputs_all widths table at past to = filled_all Output outputs_from widths table at (λ n. refl) past to

-- ---- the names of inputs

name_there : (parties at : ℕ) (widths : List ℕ) (i : ℕ) (x : Input) → slice_get (inputs_from parties at widths) i ≡ Some x → (x.name ≡ input_name (at + i)) × (i < length widths)
name_there parties at [] i x h = cc
name_there parties at (w ∷ ws) zero x h =
    let here : x.name ≡ input_name at = cc in
    (here ∙ ap input_name (let e : at ≡ at + 0 = omega arith in e), omega arith)
name_there parties at (w ∷ ws) (suc i) x h =
    let rest = name_there parties (at + 1) ws i x h in
    (rest.0 ∙ ap input_name (let e : at + 1 + i ≡ at + suc i = omega arith in e), (let within = rest.1 in omega arith))

same_place : (i j : ℕ) → i < 2 ^ 64 → j < 2 ^ 64 → input_name i ≡ input_name j → i ≡ j
same_place i j low high h = decimal_injective i j low high (append_cancel_left (codes "in") (decimal i) (decimal j) h)

pub named_apart : (parties : ℕ) (widths : List ℕ) → length widths < 2 ^ 64 → AreNamedApart (inputs_from parties 0 widths)
named_apart parties widths few = record {
  apart = λ i j x y first second same.
      let a = name_there parties 0 widths i x first in
      let b = name_there parties 0 widths j y second in
      let within_a = a.1 in
      let within_b = b.1 in
      let zero_i : 0 + i ≡ i = omega arith in
      let zero_j : 0 + j ≡ j = omega arith in
      same_place i j (omega arith) (omega arith) (ap input_name (sym zero_i) ∙ sym a.0 ∙ same ∙ b.0 ∙ ap input_name zero_j);
}

-- ---- the widths of values

values_widths : (parties at : ℕ) (widths : List ℕ) (v : List (List Bool)) → HaveWidths None (inputs_from parties at widths) v → map (λ bits. length bits) v ≡ widths
values_widths parties at [] [] h = refl
values_widths parties at [] (b ∷ v) h = let count = h.count in absurd (omega arith)
values_widths parties at (w ∷ ws) [] h = let count = h.count in absurd (omega arith)
values_widths parties at (w ∷ ws) (b ∷ v) h =
    let first : length b ≡ w = h.each 0 (record { name = input_name at; party = record { 0 = at % parties }; width = w }) b refl refl in
    let count = h.count in
    let rest = values_widths parties (at + 1) ws v (record { count = omega arith; each = λ i x value there is. h.each (suc i) x value there is }) in
    ap (λ (n : ℕ). n ∷ map (λ bits. length bits) v) first ∙ ap (λ (ns : List ℕ). w ∷ ns) rest

pub have_widths : (parties : ℕ) (c : Circuit) (table : List Input) → table ≡ inputs_from parties 0 c.inputs → (v : List (List Bool)) → HaveWidths None table v → HaveInputWidths c v
have_widths parties c table is v h = record { widths = values_widths parties 0 c.inputs v (subst (λ (t : List Input). HaveWidths None t v) is h) }

-- ---- the bits that are told

pub record ToldTo (widths : List ℕ) (bits : List Bool) (start : ℕ) (outputs : List Told) (at from : ℕ) : Type 0 where
  pub count : length outputs ≡ at
  pub left : from + sum (drop at widths) ≡ length bits
  pub rest : outputs ++ cut_from at (drop at widths) (drop from bits) ≡ cut_from 0 widths (drop start bits)

pub told_none : (widths : List ℕ) (bits : List Bool) (start : ℕ) → start + sum widths ≡ length bits → ToldTo widths bits start [] 0 start
told_none widths bits start h = record { count = refl; left = h; rest = refl }

-- the next width is within the bits that are left
pub told_left : (widths : List ℕ) (bits : List Bool) (start : ℕ) (outputs : List Told) (at from : ℕ) → at < length widths → ToldTo widths bits start outputs at from → from + get_or widths at 0 + sum (drop (at + 1) widths) ≡ length bits
told_left widths bits start outputs at from within to =
    let cut = ap sum (drop_more widths at 0 within) ∙ sum_by-cons (λ n. n) (get_or widths at 0) (drop (at + 1) widths) in
    let left = to.left in
    omega arith

pub told_more : (widths : List ℕ) (bits part : List Bool) (start : ℕ) (outputs after : List Told) (at from next : ℕ) (name : Text) → at < length widths → ToldTo widths bits start outputs at from → name ≡ output_name at → next ≡ from + get_or widths at 0 → part ≡ take (next - from) (drop from bits) → after ≡ outputs ++ record { name = name; to = All; bits = part } ∷ [] → ToldTo widths bits start after (at + 1) next
told_more widths bits part start outputs after at from next name within to n w p pushed =
    let width = get_or widths at 0 in
    let one : Told = record { name = output_name at; to = All; bits = take width (drop from bits) } in
    let size : next - from ≡ width = omega arith in
    let added : after ≡ outputs ++ one ∷ [] =
    pushed
    ∙ ap (λ (t : Text). outputs ++ record { name = t; to = All; bits = part } ∷ []) n
    ∙ ap (λ (xs : List Bool). outputs ++ record { name = output_name at; to = All; bits = xs } ∷ []) (p ∙ ap (λ (m : ℕ). take m (drop from bits)) size) in
    let behind : drop width (drop from bits) ≡ drop next bits = drop-drop width from bits ∙ ap (λ (m : ℕ). drop m bits) (sym w) in
    record {
      count = ap length added ∙ length_push outputs one ∙ ap (λ (m : ℕ). m + 1) to.count;
      left = (let left = told_left widths bits start outputs at from within to in omega arith);
      rest =
          ap (λ (xs : List Told). xs ++ cut_from (at + 1) (drop (at + 1) widths) (drop next bits)) added
          ∙ append_assoc outputs (one ∷ []) (cut_from (at + 1) (drop (at + 1) widths) (drop next bits))
          ∙ ap (λ (xs : List Bool). outputs ++ one ∷ cut_from (at + 1) (drop (at + 1) widths) xs) (sym behind)
          ∙ ap (λ (ws : List ℕ). outputs ++ cut_from at ws (drop from bits)) (sym (drop_more widths at 0 within))
          ∙ to.rest;
    }

cut_is : (at : ℕ) (widths : List ℕ) (bits : List Bool) → length bits ≡ sum widths → AreCut (outputs_from at widths) bits (cut_from at widths bits)
cut_is at [] bits h = record { names = refl; receivers = refl; widths = refl; joined = sym (nil_from_length bits h) }
cut_is at (w ∷ ws) bits h =
    let whole = sum_by-cons (λ n. n) w ws in
    let size : length (drop w bits) ≡ sum ws = simp length-drop (omega arith) in
    let rest = cut_is (at + 1) ws (drop w bits) size in
    let first : length (take w bits) ≡ w = length-take-le w bits (omega arith) in
    record {
      names = ap (λ (ns : List Text). output_name at ∷ ns) rest.names;
      receivers = ap (λ (rs : List Receiver). All ∷ rs) rest.receivers;
      widths = ap (λ (n : ℕ). n ∷ map (λ (t : Told). length t.bits) (cut_from (at + 1) ws (drop w bits))) first ∙ ap (λ (ns : List ℕ). w ∷ ns) rest.widths;
      joined = ap (λ (xs : List Bool). take w bits ++ xs) rest.joined ∙ take-append-drop w bits;
    }

pub told_all : (widths : List ℕ) (bits : List Bool) (start : ℕ) (outputs : List Told) (at from : ℕ) → length widths ≤ at → length bits ≡ start + sum widths → ToldTo widths bits start outputs at from → AreCut (outputs_from 0 widths) (drop start bits) outputs
told_all widths bits start outputs at from past count to =
    let size : length (drop start bits) ≡ sum widths = simp length-drop (omega arith) in
    let is : outputs ≡ cut_from 0 widths (drop start bits) =
    sym (append-nil outputs)
    ∙ ap (λ (ws : List ℕ). outputs ++ cut_from at ws (drop from bits)) (sym (drop_all at widths past))
    ∙ to.rest in
    subst (λ (xs : List Told). AreCut (outputs_from 0 widths) (drop start bits) xs) (sym is) (cut_is 0 widths (drop start bits) size)
