-- The canonical words of a statement say it again.
use Rattle.std.proofs.Common.{ℕ, ◌≡◌, ◌<◌, ◌≤◌, Bool, true, false, not, ◌&&◌, ◌||◌, ◌==◌, cond, List, [], ◌∷◌, ◌++◌, length, map, take, Option, Some, None, Ok, zero, suc, refl, sym, ◌∙◌, ap, subst, arith}
use Rattle.std.specs.Prelude.{slice_get, option_map, option_and_then, is_some, is_none, IfSome}
use Rattle.std.specs.List.{list_all}
use Rattle.std.specs.Option.{unwrap_or}
use Rattle.std.specs.Str.{bytes_eq}
use Rattle.std.proofs.lemmas.Bool.{ltb-true, lt-ltb, eq-eqb}
use Rattle.std.proofs.lemmas.List.{length-map}
use Rattle.std.proofs.lemmas.Slice.Eq.{bytes_eq-Decides}
use Rattle.mot_base.specs.Limits.{most_parties, most_statements}
use Rattle.mot_base.specs.Names.{is_name}
use Rattle.mot_base.proofs.Lists.{same_some, implied_true as implied, true_both as both, both_true}
use Rattle.share_types.specs.declared.sharing.Sharing.{Sharing}
use Rattle.share_types.specs.declared.sharing.Sharing.TheVariants.{A, B, Y}
use Rattle.share_types.specs.declared.sharing.WireType.{WireType}
use Rattle.share_types.specs.declared.sharing.WireType.TheVariants as wire
use Rattle.share_types.specs.Wires.{sharing_of, is_shared, wire_type}
use Rattle.mixed_language.specs.declared.language.Operation.{Operation}
use Rattle.mixed_language.specs.declared.operand.Operand.{Operand}
use Rattle.mixed_language.specs.Language.{operations, word_of, domain_of, is_in, gives, states, is_name_slot, is_letter_slot, arity_of}
use Rattle.mixed_language.specs.Circuit.{Circuit, Statement, wire_at, place_of}
use Rattle.mixed_language.specs.Table.{name_at}
use Rattle.mixed_language.specs.Valid.{IsStatement, IsCircuit, IsNewName}
use Rattle.mixed_language.proofs.CircuitLemmas.{fields}
use Rattle.mixed_language.proofs.EarlierLemmas.{wire_there}
use Rattle.mixed_language.proofs.NameLemmas.{named_new}
use Rattle.mixed_language.proofs.PlaceLemmas.{place_of-named}
use Rattle.mixed_language.proofs.RowLemmas.{row_of, each_operation}
use Rattle.mixed_language.proofs.TableLemmas.{own_place}
use Rattle.mixed_circuit.specs.Line.{Parts, letter_of, are_spelled, is_letter_of, is_party, is_new, operands_of, operand_of, sharing_given, statement_of, said}
use Rattle.mixed_circuit.specs.Stated.{AreWhole, IsSomeName}
use Rattle.mixed_circuit.specs.Written.{letter_word, statement_words}
use Rattle.mixed_circuit.proofs.ApartLemmas.{one_line_one_operation}
use Rattle.mixed_circuit.proofs.EarlierLemmas.{operand_found}
use Rattle.mixed_circuit.proofs.SaysLemmas.{Means, parts_again, resolved_again, said_again, then_operand}
use Rattle.mixed_circuit.proofs.SlotLemmas.{IsSmall, keywords_plain, letter_read}
use Rattle.mixed_circuit.proofs.AgainLemmas.{IsKnown, line_read}
use Rattle.text_lines.proofs.JoinedLemmas.{is_plain_word}
use Rattle.text_lines.specs.Text.{Text}

-- ---- what is known of a line that says a statement

-- a value of an operation is shared as a letter says
abbrev is_kept : Operation → Sharing → Bool
is_kept o x = bytes_eq (letter_word (Some (gives o x))) (letter_word (Some x))

abbrev are_kept : Operation → Bool
are_kept o = list_all (is_kept o) (A ∷ B ∷ Y ∷ [])

-- a line with a letter says a value, which is shared as the letter says
abbrev keeps_letter : Operation → Bool
keeps_letter o = not (states is_letter_slot o) || (states is_name_slot o && are_kept o)

letters_kept : list_all keeps_letter operations ≡ true
letters_kept = refl

each_kept : (o : Operation) (x : Sharing) → are_kept o ≡ true → is_kept o x ≡ true
each_kept o A h = (both_true _ _ h).0
each_kept o B h = (both_true _ _ (both_true _ _ h).1).0
each_kept o Y h = (both_true _ _ (both_true _ _ (both_true _ _ h).1).1).0

sharing_kept : (o : Operation) (x : Sharing) → keeps_letter o ≡ true → states is_letter_slot o ≡ true →
    (states is_name_slot o ≡ true) × (Some (gives o x) ≡ Some x)
sharing_kept o x h stated =
    let row = implied (states is_letter_slot o) _ h stated in
    let parts = both_true (states is_name_slot o) (are_kept o) row in
    let same = bytes_eq-Decides (letter_word (Some (gives o x))) (letter_word (Some x)) in
    let word = same.0 (each_kept o x parts.1) in
    (parts.0, sym (letter_read (Some (gives o x))) ∙ ap letter_of word ∙ letter_read (Some x))

letter_of_value : (operation : Operation) (o : Option Sharing) (m : Option Text) (sharing : Sharing)
    (operands : List Operand) → is_letter_of operation o ≡ true → IsSomeName m →
    sharing_given (domain_of operation) o operands ≡ Some sharing →
    Some (gives operation sharing) ≡ Some sharing →
    option_map (λ (name : Text). gives operation sharing) m ≡ o
letter_of_value operation None m sharing operands letter named given kept = cc
letter_of_value operation (Some l) None sharing operands letter named given kept = absurd named
letter_of_value operation (Some l) (Some name) sharing operands letter named given kept = kept ∙ sym given

small_party : (parties : ℕ) (o : Option ℕ) → parties ≤ 8 → is_party parties o ≡ true → IsSmall o
small_party parties None few h = tt
small_party parties (Some party) few h = let below = ltb-true party parties h in omega arith

-- ---- the names of operands

pub there_in_front : (before after : List Statement) (at : ℕ) (s : Statement) → slice_get before at ≡ Some s →
    slice_get (before ++ after) at ≡ Some s
there_in_front [] after at s h = cc
there_in_front (t ∷ before) after zero s h = h
there_in_front (t ∷ before) after (suc at) s h = there_in_front before after at s h

names_found : (before after : List Statement) (names : List Text) (found : List Operand) →
    operands_of before names ≡ Some found →
    map (name_at (before ++ after)) (map (λ (x : Operand). x.at) found) ≡ names
names_found before after [] found h =
    ap (λ (xs : List Operand). map (name_at (before ++ after)) (map (λ (x : Operand). x.at) xs))
    (sym (same_some _ _ h))
names_found before after (name ∷ names) found h =
    let parts = then_operand (operand_of before name) (operands_of before names) found h in
    let first = operand_found before name parts.0 parts.2 in
    let named = place_of-named before name parts.0.at first.at in
    let here : name_at (before ++ after) parts.0.at ≡ name =
    ap (λ (o : Option Statement). unwrap_or (option_map (λ (s : Statement). s.name) o) [])
    (there_in_front before after parts.0.at named.s named.there) ∙ named.named in
    ap (λ (xs : List Operand). map (name_at (before ++ after)) (map (λ (x : Operand). x.at) xs)) parts.4
    ∙ ap (λ (n : Text). n ∷ map (name_at (before ++ after)) (map (λ (x : Operand). x.at) parts.1)) here
    ∙ ap (λ (ns : List Text). name ∷ ns) (names_found before after names parts.1 parts.3)

-- ---- the parts of a statement

some_if : (b : Bool) (name : Text) → (b ≡ true → is_name name ≡ true) → b ≡ true → IsSomeName (cond b (Some name) None)
some_if true name is h = is refl
some_if false name is h = cc

none_if : {X : Type 0} (b : Bool) (x : X) → b ≡ false → cond b (Some x) None ≡ None
none_if true x h = cc
none_if false x h = refl

letter_if : (operation : Operation) (b : Bool) (sharing : Sharing) → is_in (domain_of operation) sharing ≡ true → b ≡ true →
    is_letter_of operation (cond b (Some sharing) None) ≡ true
letter_if operation true sharing is h = is
letter_if operation false sharing is h = cc

new_if : (before : List Statement) (b : Bool) (name : Text) → (b ≡ true → IsNewName before name) →
    is_new before (cond b (Some name) None) ≡ true
new_if before true name is = ap is_none (is refl).new
new_if before false name is = refl

party_is : (parties : ℕ) (o : Option ℕ) → IfSome o (λ party. party < parties) → is_party parties o ≡ true
party_is parties None h = refl
party_is parties (Some party) h = lt-ltb party parties h

name_is : (b : Bool) (name : Text) → (b ≡ false → name ≡ []) → unwrap_or (cond b (Some name) None) [] ≡ name
name_is true name none = refl
name_is false name none = sym (none refl)

given_is : {X : Type 0} (b : Bool) (name : Text) (given : X) →
    option_map (λ (n : Text). given) (cond b (Some name) None) ≡ cond b (Some given) None
given_is true name given = refl
given_is false name given = refl

-- ---- the sharing of operands

sharing_is : (sharing : Sharing) (w : WireType) → is_shared sharing w ≡ true → sharing_of w ≡ sharing
sharing_is A wire.A h = refl
sharing_is A (wire.B width) h = cc
sharing_is A (wire.Y width) h = cc
sharing_is B wire.A h = cc
sharing_is B (wire.B width) h = refl
sharing_is B (wire.Y width) h = cc
sharing_is Y wire.A h = cc
sharing_is Y (wire.B width) h = cc
sharing_is Y (wire.Y width) h = refl

all_shared : (sharing : Sharing) (xs : List Operand) →
    ((i : ℕ) (x : Operand) → slice_get xs i ≡ Some x → is_shared sharing x.wire ≡ true) →
    list_all (λ x. is_shared sharing x.wire) xs ≡ true
all_shared sharing [] shared = refl
all_shared sharing (x ∷ xs) shared =
    both (is_shared sharing x.wire) (list_all (λ x. is_shared sharing x.wire) xs) (shared 0 x refl)
    (all_shared sharing xs (λ i y e. shared (suc i) y e))

-- an operation whose line has no letter has an operand
abbrev has_operand_without_letter : Operation → Bool
has_operand_without_letter operation = not (not (states is_letter_slot operation)) || not (arity_of operation == 0)

some_operand : (operation : Operation) (count : ℕ) → states is_letter_slot operation ≡ false → count ≡ arity_of operation →
    count ≡ 0 → ⊥
some_operand operation count none is empty =
    let row =
    implied (not (states is_letter_slot operation)) (not (arity_of operation == 0))
    (each_operation has_operand_without_letter refl operation) (ap not none) in
    let contrary = ap (λ (n : ℕ). not (n == 0)) (sym is ∙ empty) in
    let contradiction = sym row ∙ contrary in
    cc

given_again : (operation : Operation) (b : Bool) (sharing : Sharing) (operands : List Operand) →
    states is_letter_slot operation ≡ b → length operands ≡ arity_of operation →
    is_in (domain_of operation) sharing ≡ true →
    ((i : ℕ) (x : Operand) → slice_get operands i ≡ Some x → is_shared sharing x.wire ≡ true) →
    sharing_given (domain_of operation) (cond b (Some sharing) None) operands ≡ Some sharing
given_again operation true sharing operands stated count domain shared = refl
given_again operation false sharing [] stated count domain shared =
    absurd (some_operand operation 0 stated count refl)
given_again operation false sharing (x ∷ xs) stated count domain shared =
    let same = sharing_is sharing x.wire (shared 0 x refl) in
    let tests =
    both (is_in (domain_of operation) sharing) (list_all (λ y. is_shared sharing y.wire) (x ∷ xs)) domain
    (all_shared sharing (x ∷ xs) shared) in
    ap (λ (given : Sharing).
    cond (is_in (domain_of operation) given && list_all (λ y. is_shared given y.wire) (x ∷ xs)) (Some given) None) same
    ∙ ap (λ (b : Bool). cond b (Some sharing) None) tests

-- ---- the names of a circuit's own operands

module _ (parties : ℕ) (before : List Statement) (circuit : IsCircuit (fields parties before)) where
  -- a value there, with its name
  record HasName (at : ℕ) : Type 0 where
    named : is_name (name_at before at) ≡ true
    place : place_of before (name_at before at) ≡ Some at

  has_name : (at : ℕ) (w : WireType) → wire_at before at ≡ Some w → HasName at
  has_name at w there =
      let here = wire_there before at w there in
      let s = here.0 in
      let value : is_some s.wire ≡ true = ap (λ (o : Option WireType). is_some o) here.2 in
      let is : s.name ≡ name_at before at =
      ap (λ (o : Option Statement). unwrap_or (option_map (λ (t : Statement). t.name) o) []) (sym here.1) in
      let new = named_new parties (take at before) s (circuit.each at s here.1) value in
      record {
        named = subst (λ (n : Text). is_name n ≡ true) is new.named;
        place = subst (λ (n : Text). place_of before n ≡ Some at) is
            (own_place (fields parties before) at s circuit here.1 value);
      }

  abbrev names_of : List Operand → List Text
  names_of operands = map (λ (x : Operand). name_at before x.at) operands

  all_named : (operands : List Operand) →
      ((i : ℕ) (x : Operand) → slice_get operands i ≡ Some x → wire_at before x.at ≡ Some x.wire) →
      list_all is_name (names_of operands) ≡ true
  all_named [] found = refl
  all_named (x ∷ xs) found =
      both (is_name (name_at before x.at)) (list_all is_name (names_of xs))
      (has_name x.at x.wire (found 0 x refl)).named (all_named xs (λ i y e. found (suc i) y e))

  one_found : (x : Operand) → wire_at before x.at ≡ Some x.wire → operand_of before (name_at before x.at) ≡ Some x
  one_found x there =
      ap (λ (o : Option ℕ). option_and_then (λ at. option_map (λ (w : WireType). let operand : Operand = record { at = at; wire = w } in operand) (wire_at before at)) o)
      (has_name x.at x.wire there).place
      ∙ ap (option_map (λ (w : WireType). let operand : Operand = record { at = x.at; wire = w } in operand)) there

  all_found : (operands : List Operand) →
      ((i : ℕ) (x : Operand) → slice_get operands i ≡ Some x → wire_at before x.at ≡ Some x.wire) →
      operands_of before (names_of operands) ≡ Some operands
  all_found [] found = refl
  all_found (x ∷ xs) found =
      ap (option_and_then (λ (first : Operand). option_map (λ (more : List Operand). first ∷ more) (operands_of before (names_of xs))))
      (one_found x (found 0 x refl))
      ∙ ap (option_map (λ (more : List Operand). x ∷ more)) (all_found xs (λ i y e. found (suc i) y e))

  -- ---- a statement by its parts

  module _ (s : Statement) (is : IsStatement parties before s) where
    abbrev op : Operation
    op = s.shape.operation

    abbrev named : Bool
    named = states is_name_slot op

    abbrev pub own_parts : Parts
    own_parts = record {
      operation = op;
      name = cond named (Some s.name) None;
      letter = cond (states is_letter_slot op) (Some is.sharing) None;
      operands = names_of is.operands;
      party = s.shape.party;
      width = s.shape.width;
      place = s.shape.place;
      constant = s.shape.constant;
    }

    pub own_whole : AreWhole own_parts
    own_whole = record {
      named = some_if named s.name (λ stated. (is.name stated).named);
      unnamed = none_if named s.name;
      letter = letter_if op (states is_letter_slot op) is.sharing is.domain;
      no_letter = none_if (states is_letter_slot op) is.sharing;
      owner = is.numbers.owner;
      no_party = is.numbers.no_party;
      no_width = is.numbers.no_width;
      no_place = is.numbers.no_place;
      no_constant = is.numbers.no_constant;
      arity = length-map is.operands (λ (x : Operand). name_at before x.at) ∙ is.arity;
      operands = all_named is.operands is.uses.found;
      some_width = is.numbers.some_width;
      in_most = is.numbers.in_width;
      most_place = is.numbers.in_place;
      fits = is.numbers.fits;
    }

    abbrev made : Text → Option WireType → Option Sharing → List ℕ → Statement
    made name wire given operands = record {
      name = name;
      wire = wire;
      shape = record s.shape { sharing = given; operands = operands };
    }

    own_is : s ≡ statement_of own_parts is.operands is.sharing is.width
    own_is =
        ap (λ (n : Text). made n s.wire s.shape.sharing s.shape.operands) (sym (name_is named s.name is.no_name))
        ∙ (ap (λ (w : Option WireType). made (unwrap_or own_parts.name []) w s.shape.sharing s.shape.operands)
        (is.wire ∙ sym (given_is named s.name (wire_type (gives op is.sharing) is.width)))
        ∙ (ap (λ (g : Option Sharing). made (unwrap_or own_parts.name []) (option_map (λ (n : Text). wire_type (gives op is.sharing) is.width) own_parts.name) g s.shape.operands)
        (is.given ∙ sym (given_is named s.name (gives op is.sharing)))
        ∙ ap (made (unwrap_or own_parts.name []) (option_map (λ (n : Text). wire_type (gives op is.sharing) is.width) own_parts.name) (option_map (λ (n : Text). gives op is.sharing) own_parts.name))
        is.places))

    pub own_means : Means (fields parties before) own_parts s
    own_means = record {
      operands = is.operands;
      sharing = is.sharing;
      width = is.width;
      party = party_is parties s.shape.party is.numbers.party;
      new = new_if before named s.name is.name;
      found = all_found is.operands is.uses.found;
      shared = given_again op (states is_letter_slot op) is.sharing is.operands refl is.arity is.domain is.uses.shared;
      wide = is.wide;
      is = own_is;
    }

-- ---- the canonical words of a statement

-- words of a canonical line say a statement
pub record SaysAgain (c : Circuit) (s : Statement) (ws : List Text) : Type 0 where
  pub plain : list_all is_plain_word ws ≡ true
  pub says : said c ws ≡ Ok s

pub says_again : (parties : ℕ) (before after : List Statement) (s : Statement) → parties ≤ most_parties →
    IsCircuit (fields parties before) → length before < most_statements → IsStatement parties before s →
    SaysAgain (fields parties before) s (statement_words (before ++ after) s)
says_again parties before after s few circuit room is =
    let all = before ++ after in
    let c = fields parties before in
    let p = own_parts parties before circuit s is in
    let m = own_means parties before circuit s is in
    let whole = own_whole parties before circuit s is in
    let sharing = option_map (λ (name : Text). gives p.operation m.sharing) p.name in
    let known : IsKnown p sharing = record {
      whole = whole;
      small = small_party parties p.party few m.party;
      keyword = each_operation (λ (o : Operation). is_plain_word (word_of o)) keywords_plain p.operation;
      letter_is = λ stated.
          let kept = sharing_kept p.operation m.sharing (each_operation keeps_letter letters_kept p.operation) stated in
          letter_of_value p.operation p.letter p.name m.sharing m.operands (whole.letter stated)
          (whole.named kept.0) m.shared kept.1;
    } in
    let read =
    line_read all p sharing (map (λ (x : Operand). x.at) m.operands) known
    (names_found before after p.operands m.operands m.found) in
    let t = statement_of p m.operands m.sharing m.width in
    let ws = statement_words all t in
    let listed = row_of p.operation in
    let spelled : are_spelled p.operation ws ≡ true = both _ _ (eq-eqb _ _ read.count) read.spelled in
    let found = one_line_one_operation ws listed.0 p.operation listed.1 spelled in
    let parts = parts_again ws p found read.stated (lt-ltb _ _ whole.fits) in
    let means = resolved_again c p m.operands m.sharing m.width m.party m.new m.found m.shared m.wide in
    let again : SaysAgain c t ws =
    record { plain = read.plain; says = said_again c ws p t parts means (lt-ltb _ _ room) } in
    subst (λ (u : Statement). SaysAgain c u (statement_words all u)) (sym m.is) again
