-- The canonical words of what a line states state the same again.
use Rattle.std.proofs.Common.{ℕ, ◌≡◌, ◌<◌, ◌≤◌, ◌^◌, Bool, true, false, ◌||◌, List, [], ◌∷◌, ◌++◌, length, map, take, drop, Option, Some, None, refl, sym, ◌∙◌, ap, subst, cond, arith, append_assoc, append-nil}
use Rattle.std.specs.Prelude.{filter, option_and_then}
use Rattle.std.specs.List.{list_all, list_any}
use Rattle.std.specs.Option.{unwrap_or}
use Rattle.std.proofs.Math.Pow.{pow_mono}
use Rattle.std.proofs.lemmas.List.{length-map}
use Rattle.std.proofs.lemmas.List.Folds.{list_all-append}
use Rattle.std.proofs.lemmas.Slice.Eq.{bytes_eq-Decides}
use Rattle.share_types.specs.declared.sharing.Sharing.{Sharing}
use Rattle.mixed_language.specs.declared.language.Slot.{Slot}
use Rattle.mixed_language.specs.declared.language.Slot.TheVariants as slot
use Rattle.mixed_language.specs.declared.language.Operation.{Operation}
use Rattle.mixed_language.specs.Language.{word_of, slots_of, states, is_name_slot, is_letter_slot, is_owner_slot, is_party_slot, is_width_slot, is_place_slot, is_constant_slot, is_operand_slot}
use Rattle.mixed_language.specs.Circuit.{Statement, Shape}
use Rattle.mixed_circuit.specs.Line.{Parts, no_parts, is_letter_of, is_spelled, each_spelled, with_word, with_words}
use Rattle.mixed_circuit.specs.Stated.{AreWhole}
use Rattle.mixed_language.specs.Table.{name_at}
use Rattle.mixed_circuit.specs.Written.{letter_word, slot_word, slot_words, places_behind}
use Rattle.text_lines.proofs.JoinedLemmas.{is_plain_word}
use Rattle.mixed_circuit.proofs.SlotLemmas.{IsSmall, name_plain, some_named, letter_read, letter_plain, letter_stated, owner_plain, owner_stated, told_plain, told_stated, width_stated, place_stated, constant_stated}
use Rattle.text_lines.proofs.DecimalLemmas.{decimal_plain}
use Rattle.text_lines.specs.Text.{Text}
use Rattle.mot_base.specs.Names.{is_name}
use Rattle.mot_base.proofs.Lists.{true_both as both, both_true}

-- ---- what some slots have stated, and what is left

-- the parts q are those of p, but for what the slots that are left state. The operands that are left
-- stand at places
pub record IsLeft (all : List Statement) (slots : List Slot) (q p : Parts) (places : List ℕ) : Type 0 where
  pub operation_is : q.operation ≡ p.operation
  pub name : list_any is_name_slot slots ≡ false → q.name ≡ p.name
  pub letter : list_any is_letter_slot slots ≡ false → q.letter ≡ p.letter
  pub party : list_any is_party_slot slots ≡ false → q.party ≡ p.party
  pub nobody : p.party ≡ None → q.party ≡ None
  pub width : list_any is_width_slot slots ≡ false → q.width ≡ p.width
  pub place : list_any is_place_slot slots ≡ false → q.place ≡ p.place
  pub constant : list_any is_constant_slot slots ≡ false → q.constant ≡ p.constant
  pub operands : p.operands ≡ q.operands ++ map (name_at all) places
  pub count : length places ≡ length (filter is_operand_slot slots)

-- the parts q with what a slot states of p
abbrev stated_in : List Statement → Slot → Parts → Parts → List ℕ → Parts
stated_in all s q p places = record {
  operation = q.operation;
  name = cond (is_name_slot s) p.name q.name;
  letter = cond (is_letter_slot s) p.letter q.letter;
  operands = cond (is_operand_slot s) (q.operands ++ map (name_at all) (take 1 places)) q.operands;
  party = cond (is_party_slot s) p.party q.party;
  width = cond (is_width_slot s) p.width q.width;
  place = cond (is_place_slot s) p.place q.place;
  constant = cond (is_constant_slot s) p.constant q.constant;
}

field_left : {X : Type 0} (here later : Bool) (x y : X) → ((here || later) ≡ false → y ≡ x) → later ≡ false →
    cond here x y ≡ x
field_left true later x y h e = refl
field_left false later x y h e = h e

nobody_left : (here : Bool) (o q : Option ℕ) → (o ≡ None → q ≡ None) → o ≡ None → cond here o q ≡ None
nobody_left true o q h e = e
nobody_left false o q h e = h e

first_and_rest : (f : ℕ → Text) (places : List ℕ) →
    map f places ≡ map f (take 1 places) ++ map f (drop 1 places)
first_and_rest f [] = refl
first_and_rest f (x ∷ places) = refl

operands_left : (f : ℕ → Text) (here : Bool) (front : List Text) (places : List ℕ) →
    front ++ map f places ≡ cond here (front ++ map f (take 1 places)) front ++ map f
    (cond here (drop 1 places) places)
operands_left f true front places = ap (λ (names : List Text). front ++ names) (first_and_rest f places)
    ∙ sym (append_assoc front (map f (take 1 places)) (map f (drop 1 places)))
operands_left f false front places = refl

count_left : (here : Bool) (s : Slot) (slots : List Slot) (places : List ℕ) →
    length places ≡ length (cond here (s ∷ slots) slots) →
    length (cond here (drop 1 places) places) ≡ length slots
count_left true s slots [] h = absurd (omega arith)
count_left true s slots (x ∷ places) h = omega arith
count_left false s slots places h = h

places_are : (s : Slot) (places : List ℕ) →
    cond (is_operand_slot s) (drop 1 places) places ≡ places_behind s places
places_are slot.Name places = refl
places_are slot.Equals places = refl
places_are slot.Keyword places = refl
places_are slot.Owner places = refl
places_are slot.Letter places = refl
places_are slot.Width places = refl
places_are slot.Place places = refl
places_are slot.Constant places = refl
places_are slot.Operand places = refl
places_are slot.Told places = refl

left_behind : (all : List Statement) (p q : Parts) (s : Slot) (slots : List Slot) (places : List ℕ) →
    IsLeft all (s ∷ slots) q p places →
    IsLeft all slots (stated_in all s q p places) p (places_behind s places)
left_behind all p q s slots places left =
    subst (λ (more : List ℕ). IsLeft all slots (stated_in all s q p places) p more) (places_are s places)
    (record {
      operation_is = left.operation_is;
      name = field_left (is_name_slot s) _ _ _ left.name;
      letter = field_left (is_letter_slot s) _ _ _ left.letter;
      party = field_left (is_party_slot s) _ _ _ left.party;
      nobody = nobody_left (is_party_slot s) _ _ left.nobody;
      width = field_left (is_width_slot s) _ _ _ left.width;
      place = field_left (is_place_slot s) _ _ _ left.place;
      constant = field_left (is_constant_slot s) _ _ _ left.constant;
      operands = left.operands ∙ operands_left (name_at all) (is_operand_slot s) q.operands places;
      count = count_left (is_operand_slot s) s _ places left.count;
    })

same_parts : (p q : Parts) → q.operation ≡ p.operation → q.name ≡ p.name → q.letter ≡ p.letter →
    q.operands ≡ p.operands → q.party ≡ p.party → q.width ≡ p.width → q.place ≡ p.place →
    q.constant ≡ p.constant → q ≡ p
same_parts p q operation name letter operands party width place constant = λ i. record {
  operation = operation i;
  name = name i;
  letter = letter i;
  operands = operands i;
  party = party i;
  width = width i;
  place = place i;
  constant = constant i;
}

no_places : (places : List ℕ) → length places ≡ 0 → places ≡ []
no_places [] h = refl
no_places (x ∷ places) h = absurd (omega arith)

-- where no slot is left, all is stated
all_stated : (all : List Statement) (p q : Parts) (places : List ℕ) → IsLeft all [] q p places → q ≡ p
all_stated all p q places left =
    let operands : q.operands ≡ p.operands =
    sym
    (left.operands
    ∙ ap (λ (more : List ℕ). q.operands ++ map (name_at all) more) (no_places places left.count)
    ∙ append-nil q.operands) in
    same_parts p q left.operation_is (left.name refl) (left.letter refl) operands (left.party refl)
    (left.width refl) (left.place refl) (left.constant refl)

-- ---- one word

-- a word is canonical, as its slot wants it, and states something
record IsRead (operation : Operation) (q : Parts) (s : Slot) (word : Text) (next : Parts) : Type 0 where
  spelled : is_spelled operation s word ≡ true
  plain : is_plain_word word ≡ true
  stated : with_word q s word ≡ Some next

-- the shape of the statement of parts, whose value is shared so and whose operands stand at places
abbrev pub shape_with : Parts → Option Sharing → List ℕ → Shape
shape_with p sharing operands = record {
  operation = p.operation;
  sharing = sharing;
  operands = operands;
  party = p.party;
  width = p.width;
  place = p.place;
  constant = p.constant;
}

-- what is known of the parts that a line states, and of how the value of its statement is shared
pub record IsKnown (p : Parts) (sharing : Option Sharing) : Type 0 where
  pub whole : AreWhole p
  pub small : IsSmall p.party
  pub keyword : is_plain_word (word_of p.operation) ≡ true
  pub letter_is : states is_letter_slot p.operation ≡ true → sharing ≡ p.letter

read_letter : (p q : Parts) → is_letter_of p.operation p.letter ≡ true →
    IsRead p.operation q slot.Letter (letter_word p.letter) (record q { letter = p.letter })
read_letter p q h = record {
  spelled = ap (is_letter_of p.operation) (letter_read p.letter) ∙ h;
  plain = letter_plain p.operation p.letter h;
  stated = letter_stated q p.letter;
}

read_operand : (all : List Statement) (p q : Parts) (slots : List Slot) (places : List ℕ) → AreWhole p →
    IsLeft all (slot.Operand ∷ slots) q p places → (name : Text) (shape : Shape) →
    IsRead p.operation q slot.Operand (slot_word all name shape places slot.Operand)
    (stated_in all slot.Operand q p places)
unfolding with_word
read_operand all p q slots [] whole left name shape = let count = left.count in absurd (omega arith)
read_operand all p q slots (x ∷ places) whole left name shape =
    let names = ap (list_all is_name) (sym left.operands) ∙ whole.operands in
    let parts =
    both_true _ _ (sym (list_all-append is_name q.operands (name_at all x ∷ map (name_at all) places))
    ∙ names) in
    let here = (both_true (is_name (name_at all x)) _ parts.1).0 in
    record { spelled = here; plain = name_plain (name_at all x) here; stated = refl }

below_word : (width n : ℕ) → width ≤ 64 → n < 2 ^ width → n < 2 ^ 64
below_word width n wide h = let power = pow_mono {i = width} {j = 64} wide in omega arith

module _ (all : List Statement) (p : Parts) (sharing : Option Sharing) (operands : List ℕ)
    (known : IsKnown p sharing) where
  abbrev word_in : List ℕ → Slot → Text
  word_in places s = slot_word all (unwrap_or p.name []) (shape_with p sharing operands) places s

  read_word : (s : Slot) (slots : List Slot) (q : Parts) (places : List ℕ) →
      ((test : Slot → Bool) → test s ≡ true → states test p.operation ≡ true) →
      IsLeft all (s ∷ slots) q p places →
      IsRead p.operation q s (word_in places s) (stated_in all s q p places)
  unfolding with_word
  read_word slot.Name slots q places row left =
      let named = some_named p.name (known.whole.named (row is_name_slot refl)) in
      record {
        spelled = named.0;
        plain = name_plain (unwrap_or p.name []) named.0;
        stated = ap (λ (o : Option Text). let parts : Parts = record q { name = o } in Some parts) named.1;
      }
  read_word slot.Equals slots q places row left = record { spelled = refl; plain = refl; stated = refl }
  read_word slot.Keyword slots q places row left =
      record {
        spelled = (bytes_eq-Decides (word_of p.operation) (word_of p.operation)).1 refl;
        plain = known.keyword;
        stated = refl;
      }
  read_word slot.Owner slots q places row left =
      record {
        spelled = refl;
        plain = owner_plain p.party known.small;
        stated = owner_stated q p.party (known.whole.owner (row is_owner_slot refl)) known.small;
      }
  read_word slot.Letter slots q places row left =
      let stated = row is_letter_slot refl in
      let R : Option Sharing → Type 0 =
      λ o. IsRead p.operation q slot.Letter (letter_word o) (record q { letter = p.letter }) in
      subst R (sym (known.letter_is stated)) (read_letter p q (known.whole.letter stated))
  read_word slot.Width slots q places row left =
      record {
        spelled = refl;
        plain = decimal_plain p.width (let most = known.whole.in_most in omega arith);
        stated = width_stated q p.width known.whole.some_width known.whole.in_most;
      }
  read_word slot.Place slots q places row left =
      record {
        spelled = refl;
        plain = decimal_plain p.place (let most = known.whole.most_place in omega arith);
        stated = place_stated q p.place known.whole.most_place;
      }
  read_word slot.Constant slots q places row left =
      let small = below_word p.width p.constant known.whole.in_most known.whole.fits in
      record {
        spelled = refl;
        plain = decimal_plain p.constant small;
        stated = constant_stated q p.constant small;
      }
  read_word slot.Operand slots q places row left =
      read_operand all p q slots places known.whole left (unwrap_or p.name []) (shape_with p sharing operands)
  read_word slot.Told slots q places row left =
      record {
        spelled = refl;
        plain = told_plain p.party known.small;
        stated = told_stated q p.party known.small left.nobody;
      }

  -- ---- all words

  -- canonical words are as the slots want them, one each, and state the parts
  pub record AreRead (slots : List Slot) (q : Parts) (ws : List Text) : Type 0 where
    pub count : length slots ≡ length ws
    pub spelled : each_spelled p.operation slots ws ≡ true
    pub plain : list_all is_plain_word ws ≡ true
    pub stated : with_words q slots ws ≡ Some p

  abbrev pub words_in : List ℕ → List Slot → List Text
  words_in places slots = slot_words all (unwrap_or p.name []) (shape_with p sharing operands) places slots

  in_row : (test : Slot → Bool) (s : Slot) (slots : List Slot) → test s ≡ true →
      list_any test (s ∷ slots) ≡ true
  in_row test s slots h = ap (λ (b : Bool). b || list_any test slots) h

  behind_first : (a b : Bool) → b ≡ true → (a || b) ≡ true
  behind_first true b h = refl
  behind_first false b h = h

  read_words : (slots : List Slot) (q : Parts) (places : List ℕ) →
      ((test : Slot → Bool) → list_any test slots ≡ true → states test p.operation ≡ true) →
      IsLeft all slots q p places → AreRead slots q (words_in places slots)
  read_words [] q places row left =
      record { count = refl; spelled = refl; plain = refl; stated = ap Some (all_stated all p q places left) }
  read_words (s ∷ slots) q places row left =
      let here = read_word s slots q places (λ test h. row test (in_row test s slots h)) left in
      let rest =
      read_words slots (stated_in all s q p places) (places_behind s places)
      (λ test h. row test (behind_first (test s) _ h)) (left_behind all p q s slots places left) in
      record {
        count = (let n = rest.count in omega arith);
        spelled = both _ _ here.spelled rest.spelled;
        plain = both _ _ here.plain rest.plain;
        stated =
            ap
            (option_and_then
            (λ (more : Parts). with_words more slots (words_in (places_behind s places) slots))) here.stated
            ∙ rest.stated;
      }

  -- where no slot has been read yet
  none_read : map (name_at all) operands ≡ p.operands →
      IsLeft all (slots_of p.operation) (no_parts p.operation) p operands
  none_read names = record {
    operation_is = refl;
    name = λ h. sym (known.whole.unnamed h);
    letter = λ h. sym (known.whole.no_letter h);
    party = λ h. sym (known.whole.no_party h);
    nobody = λ h. refl;
    width = λ h. sym (known.whole.no_width h);
    place = λ h. sym (known.whole.no_place h);
    constant = λ h. sym (known.whole.no_constant h);
    operands = sym names;
    count = sym (length-map operands (name_at all)) ∙ ap length names ∙ known.whole.arity;
  }

  -- the words of a line are as its operation wants them, and state the parts
  pub line_read : map (name_at all) operands ≡ p.operands →
      AreRead (slots_of p.operation) (no_parts p.operation) (words_in operands (slots_of p.operation))
  line_read names = read_words (slots_of p.operation) (no_parts p.operation) operands (λ test h. h)
      (none_read names)
