-- What the words of a line state has all that the operation's row has, and nothing else.
use Rattle.std.proofs.Common.{ℕ, ◌≡◌, ◌≤◌, ◌+◌, ◌^◌, Bool, true, false, ◌&&◌, ◌||◌, List, [], ◌∷◌, ◌++◌, length, Option, Some, None, Ok, refl, sym, ◌∙◌, ap, subst, arith, cond, inl, inr}
use Rattle.std.specs.Prelude.{◌==◌, option_map, option_and_then, filter, nat_le, nat_lt, IsSome, codes}
use Rattle.std.specs.List.{list_all, list_any, find}
use Rattle.std.specs.Str.{bytes_eq}
use Rattle.std.proofs.lemmas.Bool.{ltb-true, leb-true, eqb-true}
use Rattle.std.proofs.lemmas.List.{length-append}
use Rattle.share_types.specs.declared.sharing.Sharing.{Sharing}
use Rattle.mixed_language.specs.declared.language.Operation.{Operation}
use Rattle.mixed_language.specs.declared.language.Slot.{Slot}
use Rattle.mixed_language.specs.declared.language.Slot.TheVariants as slot
use Rattle.mixed_circuit.specs.declared.cause.CircuitCause.TheVariants.{Word, BadNumber}
use Rattle.mixed_language.specs.Language.{operations, slots_of, states, is_name_slot, is_letter_slot, is_owner_slot, is_party_slot, is_width_slot, is_place_slot, is_constant_slot, is_operand_slot}
use Rattle.mixed_circuit.specs.Line.{Parts, no_parts, is_letter_of, letter_of, is_spelled, each_spelled, are_spelled, operation_of, number_within, with_word, with_words, parts_of}
use Rattle.text_lines.specs.Chain.{or_cause, unless}
use Rattle.mixed_circuit.specs.Stated.{AreWhole, IsSomeName}
use Rattle.text_lines.proofs.ChainLemmas.{ok_then, or_some, unless_true}
use Rattle.mot_base.proofs.Lists.{same_some, either_true as or_true, both_true, mapped_some as mapped}
use Rattle.text_lines.specs.Text.{Text}
use Rattle.text_lines.specs.Word.{number_of}
use Rattle.mot_base.specs.Names.{is_name}

-- ---- one field of what is stated

-- a field is as it was where no slot sets it, and as a slot sets it where one does
pub record Field (X : Type 0) (P : X → Type 0) (set : Bool) (before after : X) : Type 0 where
  pub kept : set ≡ false → after ≡ before
  pub was_set : set ≡ true → P after

keeps : {X : Type 0} {P : X → Type 0} (before after : X) → after ≡ before → Field X P false before after
keeps before after e = record { kept = λ h. e; was_set = λ h. cc }

sets : {X : Type 0} {P : X → Type 0} (before after : X) → P after → Field X P true before after
sets before after p = record { kept = λ h. cc; was_set = λ h. p }

-- the same of the first slot and of the others
both_fields : (X : Type 0) (P : X → Type 0) (a b : Bool) (x y z : X) → Field X P a x y → Field X P b y z → Field X P (a || b) x z
both_fields X P true true x y z f g = record { kept = λ h. cc; was_set = λ h. g.was_set refl }
both_fields X P true false x y z f g = record { kept = λ h. cc; was_set = λ h. subst P (sym (g.kept refl)) (f.was_set refl) }
both_fields X P false true x y z f g = record { kept = λ h. cc; was_set = λ h. g.was_set refl }
both_fields X P false false x y z f g = record { kept = λ h. g.kept refl ∙ f.kept refl; was_set = λ h. cc }

abbrev pub AreBetween : ℕ → ℕ → ℕ → Type 0
AreBetween least most n = (least ≤ n) × (n ≤ most)

-- what slots change in parts: some set a field, and operands are added
pub record Grows (operation : Operation) (slots : List Slot) (from to : Parts) : Type 0 where
  pub operation_is : to.operation ≡ from.operation
  pub name : Field (Option Text) IsSomeName (list_any is_name_slot slots) from.name to.name
  pub letter : Field (Option Sharing) (λ o. is_letter_of operation o ≡ true) (list_any is_letter_slot slots) from.letter to.letter
  pub party : Field (Option ℕ) (λ o. Unit {0}) (list_any is_party_slot slots) from.party to.party
  pub owner : list_any is_owner_slot slots ≡ true → IsSome to.party
  pub still_party : IsSome from.party → IsSome to.party
  pub width : Field ℕ (AreBetween 1 64) (list_any is_width_slot slots) from.width to.width
  pub place : Field ℕ (AreBetween 0 63) (list_any is_place_slot slots) from.place to.place
  pub constant : Field ℕ (λ n. Unit {0}) (list_any is_constant_slot slots) from.constant to.constant
  pub arity : length to.operands ≡ length from.operands + length (filter is_operand_slot slots)
  pub operands : list_all is_name from.operands ≡ true → list_all is_name to.operands ≡ true

operand_count : (b : Bool) (s : Slot) (slots : List Slot) → length (cond b (s ∷ slots) slots) ≡ length (cond b (s ∷ []) []) + length slots
operand_count true s slots = omega arith
operand_count false s slots = omega arith

both_grow : (operation : Operation) (s : Slot) (slots : List Slot) (x y z : Parts) → Grows operation (s ∷ []) x y → Grows operation slots y z → Grows operation (s ∷ slots) x z
both_grow operation s slots x y z f g = record {
  operation_is = g.operation_is ∙ f.operation_is;
  name = both_fields _ _ (is_name_slot s) _ _ _ _ (one (is_name_slot s) _ _ f.name) g.name;
  letter = both_fields _ _ (is_letter_slot s) _ _ _ _ (one (is_letter_slot s) _ _ f.letter) g.letter;
  party = both_fields _ _ (is_party_slot s) _ _ _ _ (one (is_party_slot s) _ _ f.party) g.party;
  owner = λ h. elim (or_true (is_owner_slot s) (list_any is_owner_slot slots) h) [
    | inl p ↦ g.still_party (f.owner (ap (λ b. b || false) p))
    | inr p ↦ g.owner p
  ];
  still_party = λ h. g.still_party (f.still_party h);
  width = both_fields _ _ (is_width_slot s) _ _ _ _ (one (is_width_slot s) _ _ f.width) g.width;
  place = both_fields _ _ (is_place_slot s) _ _ _ _ (one (is_place_slot s) _ _ f.place) g.place;
  constant = both_fields _ _ (is_constant_slot s) _ _ _ _ (one (is_constant_slot s) _ _ f.constant) g.constant;
  arity = (let first = f.arity in
      let second = g.arity in
      let count = operand_count (is_operand_slot s) s (filter is_operand_slot slots) in
      omega arith);
  operands = λ h. g.operands (f.operands h);
}
  where
    one : {X : Type 0} {P : X → Type 0} (b : Bool) (before after : X) → Field X P (b || false) before after → Field X P b before after
    one true before after h = h
    one false before after h = h

-- ---- one word

within : (least most : ℕ) (o : Option ℕ) (n : ℕ) → option_and_then (λ n. cond (nat_le least n && nat_le n most) (Some n) None) o ≡ Some n → AreBetween least most n
within least most None n h = cc
within least most (Some m) n h = both_within (nat_le least m) (nat_le m most) refl refl h
  where
    both_within : (a b : Bool) → nat_le least m ≡ a → nat_le m most ≡ b → cond (a && b) (Some m) None ≡ Some n → AreBetween least most n
    both_within true true e f h = (let same : m ≡ n = same_some _ _ h in let P : ℕ → Type 0 = AreBetween least most in subst P same (leb-true least m e, leb-true m most f))
    both_within true false e f h = cc
    both_within false b e f h = cc

one_more : (names : List Text) (word : Text) → list_all is_name names ≡ true → is_name word ≡ true → list_all is_name (names ++ word ∷ []) ≡ true
one_more [] word h spelled = ap (λ b. b && true) spelled
one_more (name ∷ names) word h spelled =
    let parts = both_true (is_name name) (list_all is_name names) h in
    ap (λ b. b && list_all is_name (names ++ word ∷ [])) parts.0 ∙ one_more names word parts.1 spelled

-- each kind of slot
module _ (operation : Operation) (p : Parts) where
  grow_equals : Grows operation (slot.Equals ∷ []) p p
  grow_equals = record {
    operation_is = refl;
    name = keeps _ _ refl;
    letter = keeps _ _ refl;
    party = keeps _ _ refl;
    width = keeps _ _ refl;
    place = keeps _ _ refl;
    constant = keeps _ _ refl;
    owner = λ h. cc;
    still_party = λ h. h;
    arity = omega arith;
    operands = λ h. h;
  }

  grow_keyword : Grows operation (slot.Keyword ∷ []) p p
  grow_keyword = record {
    operation_is = refl;
    name = keeps _ _ refl;
    letter = keeps _ _ refl;
    party = keeps _ _ refl;
    width = keeps _ _ refl;
    place = keeps _ _ refl;
    constant = keeps _ _ refl;
    owner = λ h. cc;
    still_party = λ h. h;
    arity = omega arith;
    operands = λ h. h;
  }

  grow_name : (word : Text) → is_name word ≡ true → Grows operation (slot.Name ∷ []) p (record p { name = Some word })
  grow_name word spelled = record {
    operation_is = refl;
    name = sets _ _ spelled;
    letter = keeps _ _ refl;
    party = keeps _ _ refl;
    width = keeps _ _ refl;
    place = keeps _ _ refl;
    constant = keeps _ _ refl;
    owner = λ h. cc;
    still_party = λ h. h;
    arity = omega arith;
    operands = λ h. h;
  }

  grow_letter : (o : Option Sharing) → is_letter_of operation o ≡ true → Grows operation (slot.Letter ∷ []) p (record p { letter = o })
  grow_letter o spelled = record {
    operation_is = refl;
    name = keeps _ _ refl;
    letter = sets _ _ spelled;
    party = keeps _ _ refl;
    width = keeps _ _ refl;
    place = keeps _ _ refl;
    constant = keeps _ _ refl;
    owner = λ h. cc;
    still_party = λ h. h;
    arity = omega arith;
    operands = λ h. h;
  }

  grow_operand : (word : Text) → is_name word ≡ true → Grows operation (slot.Operand ∷ []) p (record p { operands = p.operands ++ word ∷ [] })
  grow_operand word spelled = record {
    operation_is = refl;
    name = keeps _ _ refl;
    letter = keeps _ _ refl;
    party = keeps _ _ refl;
    width = keeps _ _ refl;
    place = keeps _ _ refl;
    constant = keeps _ _ refl;
    owner = λ h. cc;
    still_party = λ h. h;
    arity = simp length-append (omega arith);
    operands = λ h. one_more p.operands word h spelled;
  }

  grow_owner : (n : ℕ) → Grows operation (slot.Owner ∷ []) p (record p { party = Some n })
  grow_owner n = record {
    operation_is = refl;
    name = keeps _ _ refl;
    letter = keeps _ _ refl;
    party = sets _ _ tt;
    width = keeps _ _ refl;
    place = keeps _ _ refl;
    constant = keeps _ _ refl;
    owner = λ h. refl;
    still_party = λ h. refl;
    arity = omega arith;
    operands = λ h. h;
  }

  grow_all : Grows operation (slot.Told ∷ []) p p
  grow_all = record {
    operation_is = refl;
    name = keeps _ _ refl;
    letter = keeps _ _ refl;
    party = sets _ _ tt;
    width = keeps _ _ refl;
    place = keeps _ _ refl;
    constant = keeps _ _ refl;
    owner = λ h. cc;
    still_party = λ h. h;
    arity = omega arith;
    operands = λ h. h;
  }

  grow_told : (n : ℕ) → Grows operation (slot.Told ∷ []) p (record p { party = Some n })
  grow_told n = record {
    operation_is = refl;
    name = keeps _ _ refl;
    letter = keeps _ _ refl;
    party = sets _ _ tt;
    width = keeps _ _ refl;
    place = keeps _ _ refl;
    constant = keeps _ _ refl;
    owner = λ h. cc;
    still_party = λ h. refl;
    arity = omega arith;
    operands = λ h. h;
  }

  grow_width : (n : ℕ) → AreBetween 1 64 n → Grows operation (slot.Width ∷ []) p (record p { width = n })
  grow_width n bounds = record {
    operation_is = refl;
    name = keeps _ _ refl;
    letter = keeps _ _ refl;
    party = keeps _ _ refl;
    width = sets _ _ bounds;
    place = keeps _ _ refl;
    constant = keeps _ _ refl;
    owner = λ h. cc;
    still_party = λ h. h;
    arity = omega arith;
    operands = λ h. h;
  }

  grow_place : (n : ℕ) → AreBetween 0 63 n → Grows operation (slot.Place ∷ []) p (record p { place = n })
  grow_place n bounds = record {
    operation_is = refl;
    name = keeps _ _ refl;
    letter = keeps _ _ refl;
    party = keeps _ _ refl;
    width = keeps _ _ refl;
    place = sets _ _ bounds;
    constant = keeps _ _ refl;
    owner = λ h. cc;
    still_party = λ h. h;
    arity = omega arith;
    operands = λ h. h;
  }

  grow_constant : (n : ℕ) → Grows operation (slot.Constant ∷ []) p (record p { constant = n })
  grow_constant n = record {
    operation_is = refl;
    name = keeps _ _ refl;
    letter = keeps _ _ refl;
    party = keeps _ _ refl;
    width = keeps _ _ refl;
    place = keeps _ _ refl;
    constant = sets _ _ tt;
    owner = λ h. cc;
    still_party = λ h. h;
    arity = omega arith;
    operands = λ h. h;
  }

told : (operation : Operation) (p q : Parts) (b : Bool) (o : Option ℕ) → cond b (Some p) (option_map (λ n. record p { party = Some n }) o) ≡ Some q → Grows operation (slot.Told ∷ []) p q
told operation p q true o h = subst (Grows operation (slot.Told ∷ []) p) (same_some _ _ h) (grow_all operation p)
told operation p q false o h = let found = mapped (λ n. record p { party = Some n }) o q h in subst (Grows operation (slot.Told ∷ []) p) (sym found.2) (grow_told operation p found.0)

step_word : (operation : Operation) (p q : Parts) (s : Slot) (word : Text) → is_spelled operation s word ≡ true → with_word p s word ≡ Some q → Grows operation (s ∷ []) p q
unfolding with_word
step_word operation p q slot.Name word spelled h = subst (Grows operation (slot.Name ∷ []) p) (same_some _ _ h) (grow_name operation p word spelled)
step_word operation p q slot.Equals word spelled h = subst (Grows operation (slot.Equals ∷ []) p) (same_some _ _ h) (grow_equals operation p)
step_word operation p q slot.Keyword word spelled h = subst (Grows operation (slot.Keyword ∷ []) p) (same_some _ _ h) (grow_keyword operation p)
step_word operation p q slot.Letter word spelled h = subst (Grows operation (slot.Letter ∷ []) p) (same_some _ _ h) (grow_letter operation p (letter_of word) spelled)
step_word operation p q slot.Operand word spelled h = subst (Grows operation (slot.Operand ∷ []) p) (same_some _ _ h) (grow_operand operation p word spelled)
step_word operation p q slot.Owner word spelled h = let found = mapped (λ n. record p { party = Some n }) (number_of word) q h in subst (Grows operation (slot.Owner ∷ []) p) (sym found.2) (grow_owner operation p found.0)
step_word operation p q slot.Told word spelled h = told operation p q (bytes_eq word (codes "all")) (number_of word) h
step_word operation p q slot.Width word spelled h = let found = mapped (λ n. record p { width = n }) (number_within 1 64 word) q h in subst (Grows operation (slot.Width ∷ []) p) (sym found.2) (grow_width operation p found.0 (within 1 64 (number_of word) found.0 found.1))
step_word operation p q slot.Place word spelled h = let found = mapped (λ n. record p { place = n }) (number_within 0 63 word) q h in subst (Grows operation (slot.Place ∷ []) p) (sym found.2) (grow_place operation p found.0 (within 0 63 (number_of word) found.0 found.1))
step_word operation p q slot.Constant word spelled h = let found = mapped (λ n. record p { constant = n }) (number_of word) q h in subst (Grows operation (slot.Constant ∷ []) p) (sym found.2) (grow_constant operation p found.0)

-- ---- all words

none_grow : (operation : Operation) (p : Parts) → Grows operation [] p p
none_grow operation p = record {
  operation_is = refl;
  name = keeps _ _ refl;
  letter = keeps _ _ refl;
  party = keeps _ _ refl;
  owner = λ h. cc;
  still_party = λ h. h;
  width = keeps _ _ refl;
  place = keeps _ _ refl;
  constant = keeps _ _ refl;
  arity = omega arith;
  operands = λ h. h;
}

then_some : {X Z : Type 0} (f : X → Option Z) (o : Option X) (z : Z) → option_and_then f o ≡ Some z → (x : X) × (o ≡ Some x) × (f x ≡ Some z)
then_some f None z h = cc
then_some f (Some x) z h = (x, refl, h)

grows : (operation : Operation) (slots : List Slot) (words : List Text) (p q : Parts) → length slots ≡ length words → each_spelled operation slots words ≡ true → with_words p slots words ≡ Some q → Grows operation slots p q
grows operation [] words p q count spelled h = subst (Grows operation [] p) (same_some _ _ h) (none_grow operation p)
grows operation (s ∷ slots) [] p q count spelled h = absurd (omega arith)
grows operation (s ∷ slots) (word ∷ words) p q count spelled h =
    let parts = both_true (is_spelled operation s word) (each_spelled operation slots words) spelled in
    let found = then_some (λ more. with_words more slots words) (with_word p s word) q h in
    both_grow operation s slots p found.0 q (step_word operation p found.0 s word parts.0 found.1) (grows operation slots words found.0 q (omega arith) parts.1 found.2)

-- the operation that is found is spelled
spelled_step : (o operation : Operation) (words : List Text) (rest : Option Operation) (b : Bool) → are_spelled o words ≡ b → (rest ≡ Some operation → are_spelled operation words ≡ true) → cond b (Some o) rest ≡ Some operation → are_spelled operation words ≡ true
spelled_step o operation words rest true e later h = ap (λ (x : Operation). are_spelled x words) (sym (same_some _ _ h)) ∙ e
spelled_step o operation words rest false e later h = later h

found_spelled : (operations : List Operation) (words : List Text) (operation : Operation) → find (λ o. are_spelled o words) operations ≡ Some operation → are_spelled operation words ≡ true
found_spelled [] words operation h = cc
found_spelled (o ∷ more) words operation h = spelled_step o operation words (find (λ o. are_spelled o words) more) _ refl (found_spelled more words operation) h

pub operation_of-spelled : (words : List Text) (operation : Operation) → operation_of words ≡ Some operation → are_spelled operation words ≡ true
unfolding operation_of
operation_of-spelled words operation h = found_spelled operations words operation h

width_bounds : (b : Bool) (n : ℕ) → Field ℕ (AreBetween 1 64) b 64 n → AreBetween 1 64 n
width_bounds true n f = f.was_set refl
width_bounds false n f = let same = f.kept refl in (omega arith, omega arith)

place_bound : (b : Bool) (n : ℕ) → Field ℕ (AreBetween 0 63) b 0 n → n ≤ 63
place_bound true n f = (f.was_set refl).1
place_bound false n f = let same = f.kept refl in omega arith

-- all facts of parts that grew from a line that states nothing
whole_grown : (q : Parts) → Grows q.operation (slots_of q.operation) (no_parts q.operation) q → nat_lt q.constant (2 ^ q.width) ≡ true → AreWhole q
whole_grown q g fits =
    let widths = width_bounds (states is_width_slot q.operation) q.width g.width in
    record {
      named = g.name.was_set;
      unnamed = g.name.kept;
      letter = g.letter.was_set;
      no_letter = g.letter.kept;
      owner = g.owner;
      no_party = g.party.kept;
      no_width = g.width.kept;
      no_place = g.place.kept;
      no_constant = g.constant.kept;
      arity = (let count = g.arity in omega arith);
      operands = g.operands refl;
      some_width = widths.0;
      in_most = widths.1;
      most_place = place_bound (states is_place_slot q.operation) q.place g.place;
      fits = ltb-true q.constant (2 ^ q.width) fits;
    }

-- what a line states: the operation that it is spelled as, and what its words state
pub record StatedBy (words : List Text) (q : Parts) : Type 0 where
  pub found : operation_of words ≡ Some q.operation
  pub stated : with_words (no_parts q.operation) (slots_of q.operation) words ≡ Some q
  pub fits : nat_lt q.constant (2 ^ q.width) ≡ true
  pub whole : AreWhole q

stated_grown : (words : List Text) (operation : Operation) (q : Parts) → operation_of words ≡ Some operation → with_words (no_parts operation) (slots_of operation) words ≡ Some q → nat_lt q.constant (2 ^ q.width) ≡ true → StatedBy words q
stated_grown words operation q found stated fits =
    let tests = both_true (length (slots_of operation) == length words) (each_spelled operation (slots_of operation) words) (operation_of-spelled words operation found) in
    let g = grows operation (slots_of operation) words (no_parts operation) q (eqb-true _ _ tests.0) tests.1 stated in
    let same : operation ≡ q.operation = sym g.operation_is in
    let P : Operation → Type 0 = λ o. Grows o (slots_of o) (no_parts o) q in
    let Q : Operation → Type 0 = λ o. operation_of words ≡ Some o in
    let R : Operation → Type 0 = λ o. with_words (no_parts o) (slots_of o) words ≡ Some q in
    record { found = subst Q same found; stated = subst R same stated; fits = fits; whole = whole_grown q (subst P same g) fits }

pub parts_of-stated : (words : List Text) (q : Parts) → parts_of words ≡ Ok q → StatedBy words q
unfolding parts_of
parts_of-stated words q h =
    let one = ok_then (or_cause Word (operation_of words)) _ q h in
    let two = ok_then (or_cause BadNumber (with_words (no_parts one.0) (slots_of one.0) words)) _ q one.2 in
    let three = ok_then (unless BadNumber (nat_lt two.0.constant (2 ^ two.0.width))) _ q two.2 in
    let same : two.0 ≡ q = cc in
    let P : Parts → Type 0 = λ x. StatedBy words x in
    subst P same (stated_grown words one.0 two.0 (or_some Word _ one.0 one.1) (or_some BadNumber _ two.0 two.1) (unless_true BadNumber _ three.0 three.1))
