-- What is read of a line is what it says.
use Rattle.std.proofs.Common.{ℕ, ◌≡◌, ◌<◌, ◌^◌, Bool, true, false, ◌&&◌, List, [], ◌∷◌, length, Option, Some, None, Ok, suc, refl, sym, ◌∙◌, ap, subst, arith, cond}
use Rattle.std.specs.Prelude.{slice_get, IfSome, nat_lt, is_none, option_map, option_and_then}
use Rattle.std.specs.List.{find, list_all}
use Rattle.std.proofs.lemmas.Bool.{ltb-true, lt-ltb}
use Rattle.share_types.specs.declared.sharing.Sharing.{Sharing}
use Rattle.mixed_language.specs.declared.language.Operation.{Operation}
use Rattle.mixed_circuit.specs.declared.cause.CircuitCause.TheVariants.{BadParty, NameTwice, NameUnknown, WrongSharing, WrongWidth, TooMany}
use Rattle.mixed_language.specs.declared.operand.Operand.{Operand}
use Rattle.mixed_language.specs.Language.{operations, slots_of, domain_of, widths_of, is_in, states, is_letter_slot}
use Rattle.mot_base.specs.Limits.{most_statements}
use Rattle.mixed_language.specs.Circuit.{Circuit, Statement, place_of}
use Rattle.share_types.specs.Wires.{sharing_of, is_shared}
use Rattle.mixed_circuit.specs.Line.{Parts, no_parts, are_spelled, operation_of, with_words, parts_of, operand_of, operands_of, sharing_given, width_given, statement_of, resolved, said, is_party, is_new, is_letter_of}
use Rattle.text_lines.specs.Chain.{or_cause, unless}
use Rattle.mixed_circuit.specs.Stated.{AreWhole}
use Rattle.mixed_circuit.specs.Says.{Says, ReadsWhatIsSaid}
use Rattle.text_lines.proofs.ChainLemmas.{ok_then, or_some, unless_true}
use Rattle.mot_base.proofs.Lists.{same_some}
use Rattle.mixed_circuit.proofs.ApartLemmas.{one_line_one_operation}
use Rattle.mixed_circuit.proofs.PartsLemmas.{StatedBy, parts_of-stated, operation_of-spelled}
use Rattle.text_lines.specs.Text.{Text}

-- ---- from what is read

some_party : (parties : ℕ) (o : Option ℕ) → is_party parties o ≡ true → IfSome o (λ party. party < parties)
some_party parties None h = tt
some_party parties (Some party) h = ltb-true party parties h

not_found : (o : Option ℕ) → is_none o ≡ true → o ≡ None
not_found None h = refl
not_found (Some at) h = cc

some_new : (ss : List Statement) (o : Option Text) → is_new ss o ≡ true → IfSome o (λ name. place_of ss name ≡ None)
some_new ss None h = tt
some_new ss (Some name) h = not_found (place_of ss name) h

-- what parts mean behind some statements
pub record Means (c : Circuit) (parts : Parts) (s : Statement) : Type 0 where
  pub operands : List Operand
  pub sharing : Sharing
  pub width : ℕ
  pub party : is_party c.parties parts.party ≡ true
  pub new : is_new c.statements parts.name ≡ true
  pub found : operands_of c.statements parts.operands ≡ Some operands
  pub shared : sharing_given (domain_of parts.operation) parts.letter operands ≡ Some sharing
  pub wide : width_given (widths_of parts.operation) parts operands ≡ Some width
  pub is : s ≡ statement_of parts operands sharing width

pub resolved-means : (c : Circuit) (parts : Parts) (s : Statement) → resolved c parts ≡ Ok s → Means c parts s
unfolding resolved
resolved-means c parts s h =
    let one = ok_then (unless BadParty (is_party c.parties parts.party)) _ s h in
    let two = ok_then (unless NameTwice (is_new c.statements parts.name)) _ s one.2 in
    let three = ok_then (or_cause NameUnknown (operands_of c.statements parts.operands)) _ s two.2 in
    let four = ok_then (or_cause WrongSharing (sharing_given (domain_of parts.operation) parts.letter three.0)) _ s three.2 in
    let five = ok_then (or_cause WrongWidth (width_given (widths_of parts.operation) parts three.0)) _ s four.2 in
    record {
      operands = three.0;
      sharing = four.0;
      width = five.0;
      party = unless_true BadParty _ one.0 one.1;
      new = unless_true NameTwice _ two.0 two.1;
      found = or_some NameUnknown _ three.0 three.1;
      shared = or_some WrongSharing _ four.0 four.1;
      wide = or_some WrongWidth _ five.0 five.1;
      is = (let e = five.2 in cc);
    }

-- the parts of a line that says a statement, and what they mean
pub record SaidBy (c : Circuit) (words : List Text) (s : Statement) : Type 0 where
  pub parts : Parts
  pub read : parts_of words ≡ Ok parts
  pub stated : StatedBy words parts
  pub means : Means c parts s
  pub room : length c.statements < most_statements

pub said-by : (c : Circuit) (words : List Text) (s : Statement) → said c words ≡ Ok s → SaidBy c words s
unfolding said
said-by c words s h =
    let one = ok_then (parts_of words) _ s h in
    let two = ok_then (resolved c one.0) _ s one.2 in
    let three = ok_then (unless TooMany (nat_lt (length c.statements) most_statements)) _ s two.2 in
    let same : two.0 ≡ s = (let e = three.2 in cc) in
    record {
      parts = one.0;
      read = one.1;
      stated = parts_of-stated words one.0 one.1;
      means = subst (Means c one.0) same (resolved-means c one.0 two.0 two.1);
      room = ltb-true _ _ (unless_true TooMany _ three.0 three.1);
    }

-- an operation that is found has a place among the operations
find_step : (o x : Operation) (words : List Text) (more : List Operation) (b : Bool) → are_spelled o words ≡ b → (find (λ o. are_spelled o words) more ≡ Some x → (i : ℕ) × (slice_get more i ≡ Some x)) → cond b (Some o) (find (λ o. are_spelled o words) more) ≡ Some x → (i : ℕ) × (slice_get (o ∷ more) i ≡ Some x)
find_step o x words more true e later h = (0, h)
find_step o x words more false e later h = let found = later h in (suc found.0, found.1)

find_listed : (all : List Operation) (words : List Text) (x : Operation) → find (λ o. are_spelled o words) all ≡ Some x → (i : ℕ) × (slice_get all i ≡ Some x)
find_listed [] words x h = cc
find_listed (o ∷ more) words x h = find_step o x words more _ refl (find_listed more words x) h

pub operation_of-listed : (words : List Text) (x : Operation) → operation_of words ≡ Some x → (i : ℕ) × (slice_get operations i ≡ Some x)
unfolding operation_of
operation_of-listed words x h = find_listed operations words x h

said_says : (c : Circuit) (words : List Text) (s : Statement) → said c words ≡ Ok s → Says c words s
said_says c words s h =
    let by = said-by c words s h in
    let listed = operation_of-listed words by.parts.operation by.stated.found in
    record {
      parts = by.parts;
      operands = by.means.operands;
      sharing = by.means.sharing;
      width = by.means.width;
      row = listed.0;
      listed = listed.1;
      spelled = operation_of-spelled words by.parts.operation by.stated.found;
      stated = by.stated.stated;
      fits = by.stated.whole.fits;
      party = some_party c.parties by.parts.party by.means.party;
      new = some_new c.statements by.parts.name by.means.new;
      found = by.means.found;
      shared = by.means.shared;
      wide = by.means.wide;
      room = by.room;
      is = by.means.is;
    }

-- ---- to what is read

party_is : (parties : ℕ) (o : Option ℕ) → IfSome o (λ party. party < parties) → is_party parties o ≡ true
party_is parties None h = refl
party_is parties (Some party) h = lt-ltb party parties h

new_is : (ss : List Statement) (o : Option Text) → IfSome o (λ name. place_of ss name ≡ None) → is_new ss o ≡ true
new_is ss None h = refl
new_is ss (Some name) h = ap (λ (found : Option ℕ). is_none found) h

pub parts_again : (words : List Text) (q : Parts) → operation_of words ≡ Some q.operation → with_words (no_parts q.operation) (slots_of q.operation) words ≡ Some q → nat_lt q.constant (2 ^ q.width) ≡ true → parts_of words ≡ Ok q
unfolding parts_of
parts_again words q found stated fits = rw (found, stated, fits) refl

pub resolved_again : (c : Circuit) (parts : Parts) (operands : List Operand) (sharing : Sharing) (width : ℕ) → is_party c.parties parts.party ≡ true → is_new c.statements parts.name ≡ true → operands_of c.statements parts.operands ≡ Some operands → sharing_given (domain_of parts.operation) parts.letter operands ≡ Some sharing → width_given (widths_of parts.operation) parts operands ≡ Some width → resolved c parts ≡ Ok (statement_of parts operands sharing width)
unfolding resolved
resolved_again c parts operands sharing width party new found shared wide = rw (party, new, found, shared, wide) refl

pub said_again : (c : Circuit) (words : List Text) (parts : Parts) (s : Statement) → parts_of words ≡ Ok parts → resolved c parts ≡ Ok s → nat_lt (length c.statements) most_statements ≡ true → said c words ≡ Ok s
unfolding said
said_again c words parts s read means room = rw (read, means, room) refl

says_said : (c : Circuit) (words : List Text) (s : Statement) → Says c words s → said c words ≡ Ok s
says_said c words s h =
    let found = one_line_one_operation words h.row h.parts.operation h.listed h.spelled in
    let read = parts_again words h.parts found h.stated (lt-ltb _ _ h.fits) in
    let means = resolved_again c h.parts h.operands h.sharing h.width (party_is c.parties h.parts.party h.party) (new_is c.statements h.parts.name h.new) h.found h.shared h.wide in
    said_again c words h.parts s read (means ∙ ap Ok (sym h.is)) (lt-ltb _ _ h.room)

pub reads_what_is_said : ReadsWhatIsSaid
reads_what_is_said c words s = (said_says c words s, says_said c words s)

-- ---- what is owed to the statement of what a line states

pub sharing_in_domain : (parts : Parts) (operands : List Operand) (sharing : Sharing) → AreWhole parts → sharing_given (domain_of parts.operation) parts.letter operands ≡ Some sharing → is_in (domain_of parts.operation) sharing ≡ true
sharing_in_domain parts operands sharing whole h = given parts.letter refl h
  where
    first_in : (o : Option Operand) → option_and_then (λ (first : Operand). cond (is_in (domain_of parts.operation) (sharing_of first.wire) && list_all (λ x. is_shared (sharing_of first.wire) x.wire) operands) (Some (sharing_of first.wire)) None) o ≡ Some sharing → is_in (domain_of parts.operation) sharing ≡ true
    first_in None h = cc
    first_in (Some first) h = chosen (is_in (domain_of parts.operation) (sharing_of first.wire)) (list_all (λ x. is_shared (sharing_of first.wire) x.wire) operands) (sharing_of first.wire) refl h
      where
        chosen : (a b : Bool) (given : Sharing) → is_in (domain_of parts.operation) given ≡ a → cond (a && b) (Some given) None ≡ Some sharing → is_in (domain_of parts.operation) sharing ≡ true
        chosen true true given e h = ap (is_in (domain_of parts.operation)) (sym (same_some _ _ h)) ∙ e
        chosen true false given e h = cc
        chosen false b given e h = cc

    given : (o : Option Sharing) → parts.letter ≡ o → sharing_given (domain_of parts.operation) o operands ≡ Some sharing → is_in (domain_of parts.operation) sharing ≡ true
    given None e h = first_in (slice_get operands 0) h
    given (Some letter) e h = letter_in (states is_letter_slot parts.operation) refl
      where
        letter_in : (b : Bool) → states is_letter_slot parts.operation ≡ b → is_in (domain_of parts.operation) sharing ≡ true
        letter_in true s = ap (is_in (domain_of parts.operation)) (sym (same_some _ _ h)) ∙ (ap (is_letter_of parts.operation) (sym e) ∙ whole.letter s)
        letter_in false s = let none = whole.no_letter s in cc

pub then_operand : (o : Option Operand) (rest : Option (List Operand)) (found : List Operand) → option_and_then (λ first. option_map (λ more. first ∷ more) rest) o ≡ Some found → (first : Operand) × (more : List Operand) × (o ≡ Some first) × (rest ≡ Some more) × (found ≡ first ∷ more)
then_operand None rest found h = cc
then_operand (Some first) None found h = cc
then_operand (Some first) (Some more) found h = (first, more, refl, refl, sym (same_some _ _ h))

pub operands_count : (ss : List Statement) (names : List Text) (found : List Operand) → operands_of ss names ≡ Some found → length found ≡ length names
operands_count ss [] found h = let e = same_some _ _ h in ap length (sym e)
operands_count ss (name ∷ names) found h =
    let parts = then_operand (operand_of ss name) (operands_of ss names) found h in
    let rest = operands_count ss names parts.1 parts.3 in
    ap length parts.4 ∙ (omega arith)

-- ---- what a line says is room for one statement more

pub said_room : (c : Circuit) (words : List Text) (s : Statement) → said c words ≡ Ok s → length c.statements < most_statements
said_room c words s h = (said-by c words s h).room
