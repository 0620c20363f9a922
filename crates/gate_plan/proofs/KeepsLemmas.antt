-- Lowering keeps the plain evaluation.
use Rattle.std.proofs.Common.{ℕ, zero, suc, ◌≡◌, ◌<◌, ◌≤◌, ◌+◌, ◌%◌, ◌^◌, Bool, true, false, cond, List, [], ◌∷◌, ◌++◌, length, map, take, Option, Some, inl, inr, refl, sym, ◌∙◌, ap, ap₂, subst, arith, append_assoc}
use Rattle.std.specs.Prelude.{slice_get, slice_index, option_map}
use Rattle.std.specs.Option.{unwrap_or}
use Rattle.std.proofs.Math.Nat.{mod-lt, mod-eq_of_lt}
use Rattle.std.proofs.Math.Pow.{pow_mono}
use Rattle.std.proofs.lemmas.Bool.{cases_lt}
use Rattle.std.proofs.lemmas.List.{append-nil, map-append, get_or-take}
use Rattle.std.proofs.lemmas.Nat.{pow_pos}
use Rattle.mot_base.specs.Limits.{most_width, most_gates}
use Rattle.mot_base.proofs.Lists.{same_some, inside_of, some_at, index_at, take_next, take_whole}
use Rattle.share_types.specs.Bits.{bits}
use Rattle.share_types.specs.declared.sharing.Sharing.{Sharing}
use Rattle.share_types.specs.declared.sharing.Sharing.TheVariants.{A, B, Y}
use Rattle.share_types.specs.declared.sharing.WireType.{WireType}
use Rattle.share_types.specs.declared.sharing.WireType.TheVariants as wire
use Rattle.share_types.specs.Wires.{is_shared, wire_type, width_of}
use Rattle.circuit_tables.specs.Table.{Told}
use Rattle.mixed_language.specs.declared.language.Operation.{Operation}
use Rattle.mixed_language.specs.declared.language.Operation.TheVariants.{Output}
use Rattle.mixed_language.specs.declared.operand.Operand.{Operand}
use Rattle.mixed_language.specs.Language.{gives, states, is_name_slot, is_told_slot, arity_of}
use Rattle.mixed_language.specs.Circuit.{Circuit, Statement, wire_at}
use Rattle.mixed_language.specs.Valid.{IsCircuit}
use Rattle.mixed_language.specs.Table.{inputs_of, told_value, name_at, receiver_of}
use Rattle.mixed_language.specs.Table as table
use Rattle.mixed_language.specs.Eval.{IsEvaluated, number_made, value_of_statement, width_given_by, told_by, told_among, told_of}
use Rattle.mixed_language.specs.Eval as eval
use Rattle.mixed_language.proofs.WidthLemmas.{circuit_wide}
use Rattle.plan_gates.specs.Gate as plan
use Rattle.plan_gates.specs.Gate.{Gate}
use Rattle.plan_gates.specs.Plan.{IsPlan}
use Rattle.plan_gates.specs.Plain.{Outside, AreLawful, plain_numbers, GateTold, told_entry}
use Rattle.plan_gates.specs.Plain as plain
use Rattle.gate_plan.specs.declared.wire.Wire.{Wire}
use Rattle.gate_plan.specs.Blocks.{Lowered, IsNumberOf}
use Rattle.gate_plan.specs.Lowering.{Source, block_of, lowered_to, lowered, operand_wire, wires_of, all_gates, wire_handled, width_handled, is_keys}
use Rattle.gate_plan.specs.Keeps.{unnamed, KeepsValues, KeepsEvaluation}
use Rattle.gate_plan.proofs.StandLemmas.{value_width, IsShared}
use Rattle.plan_gates.proofs.PlainLemmas.{length_plain}
use Rattle.gate_plan.proofs.NumberLemmas.{told_from, told_by_place, told_append, told_nothing}
use Rattle.gate_plan.proofs.OperationLemmas.{Named, Names, Tells, named, block_silent, takes_keys, gives_keys, is_by_keys, keys_taken, keys_given, is_of_word, Alike, law}
use Rattle.gate_plan.proofs.FitLemmas.{whole_word}
use Rattle.gate_plan.proofs.ValueLemmas.{HasBits, has_bits}
use Rattle.gate_plan.proofs.HandledLemmas.{handled_own, statement_of}
use Rattle.gate_plan.proofs.PlanLemmas.{start, source, block, next, stands, wire_in}
use Rattle.gate_plan.proofs.ValidLemmas.{row, operand_place, earlier, operand_value, told, valid_to, lowered_is_plan}

-- what is told among one statement more
among_more : (all : List Statement) (values : List ℕ) (ss : List Statement) (s : Statement) →
    told_among all values (ss ++ s ∷ []) ≡ told_among all values ss ++ told_by all values s
among_more all values [] s = append-nil (told_by all values s)
among_more all values (t ∷ ss) s =
    ap (λ rest. told_by all values t ++ rest) (among_more all values ss s)
    ∙ sym (append_assoc (told_by all values t) (told_among all values ss) (told_by all values s))

-- a value that is shared so is shared as keys or not
keys_shared : (given : Sharing) (w : WireType) → is_shared given w ≡ true → is_keys (Some w) ≡ is_by_keys given
keys_shared A wire.A e = refl
keys_shared B (wire.B width) e = refl
keys_shared Y (wire.Y width) e = refl
keys_shared _ _ e = cc

-- the gates of an output tell one number
output_told : (parties : ℕ) (numbers : List ℕ) (keys : Bool) (v : Source) (n : ℕ) →
    told_from (block_of parties Output keys v n).gates n numbers
    ≡ record { to = v.to; bits = bits v.width (slice_index numbers (block_of parties Output keys v n).wire.gate) } ∷ []
output_told parties numbers true v n = refl
output_told parties numbers false v n = either v.is_word
  where
    either : (b : Bool) →
        told_from (plan.gate_of (cond b (plan.OutA v.x.gate v.to) (plan.OutB v.x.gate v.to)) v.width ∷ []) n numbers
        ≡ record { to = v.to; bits = bits v.width (slice_index numbers n) } ∷ []
    either true = refl
    either false = refl

module _ (c : Circuit) (circuit : IsCircuit c) (valid : IsPlan (lowered c))
    (outside : Outside) (values : List ℕ)
    (lawful : AreLawful (lowered c) outside (plain_numbers (lowered c) outside))
    (evaluated : IsEvaluated c.statements outside.inputs values) where
  abbrev all : List Statement
  all = c.statements

  abbrev gates : List Gate
  gates = (lowered c).gates

  abbrev numbers : List ℕ
  numbers = plain_numbers (lowered c) outside

  -- the number of a value fits its width
  value_fits : (x : ℕ) (w : WireType) → wire_at all x ≡ Some w → slice_index values x < 2 ^ width_of w
  value_fits x w e =
      let found = statement_of (slice_get all x) w e in
      let is = evaluated.each x found.0 found.1 in
      let wide : width_given_by found.0 ≡ width_of w =
      ap (λ o. unwrap_or (option_map width_of o) most_width) found.2 in
      let P : ℕ → Type 0 = λ v. v < 2 ^ width_of w in
      subst P (sym (index_at values x _ is))
      (subst (λ width. value_of_statement all outside.inputs (take x values) x found.0 < 2 ^ width) wide
      (mod-lt _ (pow_pos (width_given_by found.0))))

  -- the number of each statement's wire is the statement's value
  abbrev AreKept : ℕ → Type 0
  AreKept n =
      (x : ℕ) (t : Statement) → x < n → slice_get all x ≡ Some t → (value : ℕ) → slice_get values x ≡ Some value →
      IsNumberOf (is_keys t.wire) numbers (block c x t).wire value

  -- a value that is shared so has its gates' widths and number
  shared_has : (given : Sharing) (bound : ℕ) (a : Wire) (width x : ℕ) → IsShared given gates bound a width →
      IsNumberOf (is_by_keys given) numbers a x → HasBits (lowered c) valid outside (is_by_keys given) a width x
  shared_has A bound a width x is e = (index_at numbers a.gate x e, value_width is)
  shared_has B bound a width x is e = has_bits (lowered c) valid outside false bound a width x is e
  shared_has Y bound a width x is e = has_bits (lowered c) valid outside true bound a width x is e

  module _ (n : ℕ) (s : Statement) (there : slice_get all n ≡ Some s) where
    abbrev before : List ℕ
    before = take n values

    abbrev seen : eval.Seen
    seen = eval.seen_of all s.shape (slice_index outside.inputs (length (inputs_of (take n all)))) before
        (width_given_by s)

    some_operand : (i : ℕ) → suc i ≤ arity_of s.shape.operation →
        (o : Operand) × (slice_get (row c circuit n s there).operands i ≡ Some o)
    some_operand i h =
        let r = row c circuit n s there in
        let arity = r.arity in
        some_at r.operands i (omega (arith, arity, h))

    -- the value at an operand's place
    operand_is : (i : ℕ) (o : Operand) → slice_get (row c circuit n s there).operands i ≡ Some o →
        eval.value_at before (slice_get s.shape.operands i) ≡ slice_index values o.at
    operand_is i o e =
        let t = earlier c circuit n s there i o e in
        ap (eval.value_at before) (operand_place c circuit n s there i o e)
        ∙ get_or-take n values o.at 0 t.below

    abbrev keys : Bool
    keys = is_keys (wire_handled all s)

    -- whether it takes keys, from how its operands are shared
    takes : takes_keys s.shape.operation keys ≡ is_by_keys (row c circuit n s there).sharing
    takes = by_name (named s.shape.operation)
      where
        by_name : Named s.shape.operation →
            takes_keys s.shape.operation keys ≡ is_by_keys (row c circuit n s there).sharing
        by_name (Names e untold) =
            let r = row c circuit n s there in
            let w = wire_type (gives s.shape.operation r.sharing) r.width in
            let own : s.wire ≡ Some w = r.wire ∙ rw e refl in
            ap (λ o. takes_keys s.shape.operation (is_keys o)) (handled_own c n s w circuit there own).0
            ∙ keys_taken s.shape.operation r.sharing r.width r.domain e
        by_name (Tells e) =
            let t = told c circuit n s there e in
            let r = row c circuit n s there in
            ap (λ op. takes_keys op keys) e
            ∙ (ap is_keys t.handled ∙ keys_shared r.sharing t.operand.wire (r.uses.shared 0 t.operand t.first))

    -- and its gates are as wide as the value, and have its number
    operand_has : AreKept n → (i : ℕ) (o : Operand) → slice_get (row c circuit n s there).operands i ≡ Some o →
        HasBits (lowered c) valid outside (takes_keys s.shape.operation keys)
        (operand_wire (lowered_to c n).wires (slice_get s.shape.operands i)) (width_of o.wire)
        (slice_index values o.at)
    operand_has kept i o e =
        let r = row c circuit n s there in
        let t = earlier c circuit n s there i o e in
        let v : ℕ = value_of_statement all outside.inputs (take o.at values) o.at t.statement in
        let a : Wire = operand_wire (lowered_to c n).wires (slice_get s.shape.operands i) in
        let value = evaluated.each o.at t.statement t.there_at in
        let within = inside_of all n s there in
        let shared = operand_value c circuit n s there
        (valid_to c circuit n (omega (arith, within))).values i o e in
        let number = kept o.at t.statement t.below t.there_at v value in
        let by_wire = subst (λ (a : Wire). IsNumberOf (is_keys t.statement.wire) numbers a v) (sym t.wired) number in
        let by_keys = subst (λ (b : Bool). IsNumberOf b numbers a v)
        (ap is_keys t.own ∙ keys_shared r.sharing o.wire (r.uses.shared i o e)) by_wire in
        let by_index = subst (λ (k : ℕ). IsNumberOf (is_by_keys r.sharing) numbers a k)
        (sym (index_at values o.at v value)) by_keys in
        subst (λ (b : Bool). HasBits (lowered c) valid outside b
        (operand_wire (lowered_to c n).wires (slice_get s.shape.operands i)) (width_of o.wire)
        (slice_index values o.at)) (sym takes)
        (shared_has r.sharing (start c n) (operand_wire (lowered_to c n).wires (slice_get s.shape.operands i))
        (width_of o.wire) (slice_index values o.at) shared by_index)

    used : AreKept n → (i : ℕ) → suc i ≤ arity_of s.shape.operation →
        HasBits (lowered c) valid outside (takes_keys s.shape.operation keys)
        (operand_wire (lowered_to c n).wires (slice_get s.shape.operands i))
        (eval.operand_width all (slice_get s.shape.operands i))
        (eval.value_at before (slice_get s.shape.operands i))
    used kept i h =
        let o = some_operand i h in
        let t = earlier c circuit n s there i o.0 o.1 in
        let wired : wire_at all o.0.at ≡ Some o.0.wire = rw t.there_at t.own in
        let wide : eval.operand_width all (slice_get s.shape.operands i) ≡ width_of o.0.wire =
        ap (eval.operand_width all) (operand_place c circuit n s there i o.0 o.1)
        ∙ ap (λ w. unwrap_or (option_map width_of w) 0) wired in
        let P : ℕ → ℕ → Type 0 = λ w k. HasBits (lowered c) valid outside (takes_keys s.shape.operation keys)
        (operand_wire (lowered_to c n).wires (slice_get s.shape.operands i)) w k in
        let by_width = subst (λ w. P w (slice_index values o.0.at)) (sym wide) (operand_has kept i o.0 o.1) in
        subst (λ k. P (eval.operand_width all (slice_get s.shape.operands i)) k) (sym (operand_is i o.0 o.1)) by_width

    named_width : states is_name_slot s.shape.operation ≡ true → width_given_by s ≡ (source c n s).width
    named_width e =
        let r = row c circuit n s there in
        let w = wire_type (gives s.shape.operation r.sharing) r.width in
        let own : s.wire ≡ Some w = r.wire ∙ rw e refl in
        ap (λ o. unwrap_or (option_map width_of o) most_width) own
        ∙ sym (ap width_handled (handled_own c n s w circuit there own).0)

    -- what is made of a word is as wide as one
    word_whole : is_of_word s.shape.operation ≡ true → (source c n s).width ≡ most_width
    word_whole e =
        let r = row c circuit n s there in
        let w = wire_type (gives s.shape.operation r.sharing) r.width in
        let is = whole_word s.shape.operation r.sharing r.width s.shape.width s.shape.place r.operands e r.domain r.arity
        r.uses.shared r.wide in
        let own : s.wire ≡ Some w = r.wire ∙ rw is.0 refl in
        ap width_handled (handled_own c n s w circuit there own).0 ∙ is.1

    alike : AreKept n → Alike (lowered c) valid outside s.shape.operation keys (source c n s) seen
    alike kept = record {
      high = eval.operand_width all (slice_get s.shape.operands 1);
      input = refl;
      x = used kept 0;
      y = used kept 1;
      width = named_width;
      place = refl;
      constant = refl;
      low = refl;
      whole = word_whole;
    }

    -- the number that an output tells is cut by neither width
    told_whole : (e : s.shape.operation ≡ Output) →
        number_made s.shape.operation seen % 2 ^ (source c n s).width ≡ slice_index values (told_value s)
    told_whole e =
        let t = told c circuit n s there e in
        let is = earlier c circuit n s there 0 t.operand t.first in
        let small = value_fits t.operand.at t.operand.wire (rw is.there_at is.own) in
        let made : number_made s.shape.operation seen ≡ slice_index values t.operand.at =
        ap (λ op. number_made op seen) e ∙ operand_is 0 t.operand t.first in
        ap₂ (λ (m w : ℕ). m % 2 ^ w) made (ap width_handled t.handled)
        ∙ (mod-eq_of_lt small ∙ ap (slice_index values) (sym t.place))

    told_value_is : (e : s.shape.operation ≡ Output) →
        value_of_statement all outside.inputs before n s ≡ slice_index values (told_value s)
    told_value_is e =
        let t = told c circuit n s there e in
        let is = earlier c circuit n s there 0 t.operand t.first in
        let wired : wire_at all t.operand.at ≡ Some t.operand.wire = rw is.there_at is.own in
        let small = value_fits t.operand.at t.operand.wire wired in
        let wide = (circuit_wide c circuit t.operand.at t.operand.wire wired).1 in
        let more = pow_mono wide in
        let made : number_made s.shape.operation seen ≡ slice_index values t.operand.at =
        ap (λ op. number_made op seen) e ∙ operand_is 0 t.operand t.first in
        ap₂ (λ (m w : ℕ). m % 2 ^ w) made (ap (λ o. unwrap_or (option_map width_of o) most_width) t.unnamed)
        ∙ (mod-eq_of_lt (omega (arith, small, more)) ∙ ap (slice_index values) (sym t.place))

    -- whether it gives keys
    gives_own : gives_keys s.shape.operation keys ≡ is_keys s.wire
    gives_own = by_name (named s.shape.operation)
      where
        by_name : Named s.shape.operation → gives_keys s.shape.operation keys ≡ is_keys s.wire
        by_name (Names e untold) =
            let r = row c circuit n s there in
            let w = wire_type (gives s.shape.operation r.sharing) r.width in
            let own : s.wire ≡ Some w = r.wire ∙ rw e refl in
            ap (λ o. gives_keys s.shape.operation (is_keys o)) (handled_own c n s w circuit there own).0
            ∙ (keys_given s.shape.operation r.sharing r.width r.domain e
            ∙ sym (ap is_keys own))
        by_name (Tells e) =
            let t = told c circuit n s there e in
            ap (λ op. gives_keys op keys) e ∙ sym (ap is_keys t.unnamed)

    -- the number of the statement's wire is its value
    gate_value : AreKept n → (value : ℕ) → slice_get values n ≡ Some value →
        IsNumberOf (is_keys s.wire) numbers (block c n s).wire value
    gate_value kept value e =
        let made = law (lowered c) valid outside s.shape.operation keys (source c n s) (start c n) seen
        lawful (alike kept) (stands c n s there) in
        let whole : number_made s.shape.operation seen % 2 ^ (source c n s).width ≡ value =
        by_name (named s.shape.operation) ∙ same_some _ value (sym (evaluated.each n s there) ∙ e) in
        let by_keys = subst (λ (b : Bool). IsNumberOf b numbers (block c n s).wire
        (number_made s.shape.operation seen % 2 ^ (source c n s).width)) gives_own made in
        subst (λ (k : ℕ). IsNumberOf (is_keys s.wire) numbers (block c n s).wire k) whole by_keys
      where
        by_name : Named s.shape.operation →
            number_made s.shape.operation seen % 2 ^ (source c n s).width
            ≡ value_of_statement all outside.inputs before n s
        by_name (Names e untold) = ap (λ (w : ℕ). number_made s.shape.operation seen % 2 ^ w)
            (sym (named_width e))
        by_name (Tells e) = told_whole e ∙ sym (told_value_is e)

    abbrev tell : Told
    tell = record {
      name = name_at all (told_value s);
      to = receiver_of s.shape.party;
      bits = bits (table.width_at all (told_value s)) (slice_index values (told_value s));
    }

    -- what its gates tell is what the statement tells
    gate_told : AreKept n →
        told_from (block c n s).gates (start c n) numbers ≡ map unnamed (told_by all values s)
    gate_told kept = by_name (named s.shape.operation)
      where
        by_name : Named s.shape.operation →
            told_from (block c n s).gates (start c n) numbers ≡ map unnamed (told_by all values s)
        by_name (Names e untold) =
            told_nothing (block c n s).gates (start c n) numbers
            (block_silent c.parties s.shape.operation keys (source c n s) (start c n)
            untold)
            ∙ sym (ap (λ b. map unnamed (cond b (tell ∷ []) [])) untold)
        by_name (Tells e) =
            let t = told c circuit n s there e in
            let is = earlier c circuit n s there 0 t.operand t.first in
            let wired : wire_at all t.operand.at ≡ Some t.operand.wire = rw is.there_at is.own in
            let wide : (source c n s).width ≡ table.width_at all (told_value s) =
            ap width_handled t.handled
            ∙ sym (ap (λ x. table.width_at all x) t.place
            ∙ ap (λ w. unwrap_or (option_map width_of w) 0) wired) in
            let gate : IsNumberOf false numbers (block c n s).wire
            (value_of_statement all outside.inputs before n s) =
            subst (λ (o : Option WireType). IsNumberOf (is_keys o) numbers (block c n s).wire
            (value_of_statement all outside.inputs before n s)) t.unnamed
            (gate_value kept (value_of_statement all outside.inputs before n s) (evaluated.each n s there)) in
            let number : slice_index numbers (block c n s).wire.gate ≡ slice_index values (told_value s) =
            index_at numbers (block c n s).wire.gate _ gate ∙ told_value_is e in
            let Q : Operation → Type 0 = λ op.
            told_from (block_of c.parties op keys (source c n s) (start c n)).gates (start c n) numbers
            ≡ record {
              to = (source c n s).to;
              bits = bits (source c n s).width
                  (slice_index numbers (block_of c.parties op keys (source c n s) (start c n)).wire.gate);
            } ∷ [] in
            subst Q (sym e) (output_told c.parties numbers keys (source c n s) (start c n))
            ∙ (ap₂ (λ (w k : ℕ). record { to = receiver_of s.shape.party; bits = bits w k } ∷ []) wide number
            ∙ sym (ap (λ op. map unnamed (cond (states is_told_slot op) (tell ∷ []) [])) e))

  kept_to : (n : ℕ) → n ≤ length all → AreKept n
  kept_to zero h = λ x t below here value e. absurd (omega (arith, below))
  kept_to (suc n) h = λ x t below here value e.
      elim (cases_lt x n) as (λ _. IsNumberOf (is_keys t.wire) numbers (block c x t).wire value) [
        | inl small ↦ kept_to n (omega (arith, h)) x t small here value e
        | inr large ↦
            (let place : n ≡ x = omega (arith, below, large) in
            let P : ℕ → Type 0 = λ k. IsNumberOf (is_keys t.wire) numbers (block c k t).wire value in
            subst P place (gate_value n t (ap (slice_get all) place ∙ here) (kept_to n (omega (arith, h))) value
            (ap (slice_get values) place ∙ e)))
      ]

  told_to : (n : ℕ) → n ≤ length all →
      told_from (lowered_to c n).gates 0 numbers ≡ map unnamed (told_among all values (take n all))
  told_to zero h = refl
  told_to (suc n) h =
      let here = some_at all n (omega (arith, h)) in
      let kept = kept_to n (omega (arith, h)) in
      let place : 0 + start c n ≡ start c n = omega arith in
      let later : suc n ≡ n + 1 = omega arith in
      ap (λ (l : Lowered). told_from l.gates 0 numbers) (next c n here.0 here.1)
      ∙ (told_append (lowered_to c n).gates (block c n here.0).gates 0 numbers
      ∙ (ap₂ (λ (ts us : List GateTold). ts ++ us) (told_to n (omega (arith, h)))
      (ap (λ k. told_from (block c n here.0).gates k numbers) place ∙ gate_told n here.0 here.1 kept)
      ∙ (sym (map-append unnamed (told_among all values (take n all)) (told_by all values here.0))
      ∙ ap (map unnamed)
      (sym (ap (told_among all values) (ap (λ k. take k all) later ∙ take_next all n here.0 here.1)
      ∙ among_more all values (take n all) here.0)))))

  pub keeps_values : KeepsValues c (lowered c) outside values
  keeps_values = record { values_kept = kept_at; told_kept = told_all }
    where
      kept_at : (at : ℕ) (value : ℕ) → slice_get values at ≡ Some value →
          (wire : Wire) × (slice_get (wires_of c) at ≡ Some wire)
          × IsNumberOf (is_keys (wire_at c.statements at)) numbers wire value
      kept_at at value e =
          let within = inside_of values at value e in
          let total = evaluated.count in
          let below : at < length all = omega arith in
          let here = some_at all at below in
          let own : wire_at all at ≡ here.0.wire = rw here.1 refl in (
            (block c at here.0).wire,
            wire_in c at (length all) here.0 here.1 below,
            subst (λ (o : Option WireType). IsNumberOf (is_keys o) numbers (block c at here.0).wire value) (sym own)
                (kept_to (length all) (omega arith) at here.0 below here.1 value e),
          )

      told_all : plain.told_by gates numbers ≡ map unnamed (told_of c values)
      told_all =
          told_by_place gates numbers (sym (length_plain gates outside (length gates)))
          ∙ (told_to (length all) (omega arith) ∙ ap (λ ss. map unnamed (told_among all values ss))
          (take_whole all (length all) (omega arith)))

pub keeps_evaluation : (c : Circuit) → IsCircuit c → all_gates c ≤ most_gates →
    KeepsEvaluation c (lowered c)
keeps_evaluation c circuit few outside values lawful evaluated =
    keeps_values c circuit (lowered_is_plan c circuit few) outside values lawful evaluated
