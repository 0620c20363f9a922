-- What a line says: by the values that `clap` finds, by its pieces, and by the grammar.
use Rattle.std.proofs.Common.{◌≡◌, ◌≢◌, ◌==◌, Bool, true, false, List, [], ◌∷◌, ◌++◌, length, map, cond, Some, None, Option, option_map, option_and_then, refl, sym, ◌∙◌, ap, subst, inl, inr, arith}
use Rattle.std.specs.Prelude.{◌⊎◌, slice_get, Result, Ok, Err, IfOk}
use Rattle.std.specs.List.{list_any, list_all}
use Rattle.std.proofs.Math.Path.{fun_ext}
use Rattle.std.proofs.lemmas.Bool.Decides.{nat_tests}
use Rattle.clap.specs.Words.{HasMatchesOf, first_value, found_of}
use Rattle.clap.specs.declared.parser.matches.ArgMatches.{ArgMatches}
use Rattle.mot_base.proofs.Lists.{both_true, true_both, either_true, cons_same, same_some, mapped_some}
use Rattle.text_lines.specs.Text.{Text}
use Rattle.cli_words.specs.Table.{Meaning, row, option_row, options, kinds, option_name, meaning_of, is_same}
use Rattle.cli_words.specs.Request.{Said}
use Rattle.cli_words.specs.Grammar.{Piece, option, word, SpellAll, IsSpelt, whole, divided, words_of, given, takes_option, meanings, IsGiven, absent, once, Say}
use Rattle.cli_words.specs.Pass.{is_allowed, are_allowed, is_taken, value_given, said_by, Means, IsLine}
use Rattle.cli_words.specs.Canon.{app_for, or_empty, canonical, Fits}
use Rattle.cli_words.specs.Filled.{said_in, words_found, nonempty, option_found, AreFound, IsOneWrong}
use Rattle.cli_words.specs.declared.fill.Filled.{Filled}
use Rattle.cli_words.specs.declared.read.WordsError.{WordsError}
use Rattle.cli_words.specs.declared.table.Command.{Command}
use Rattle.cli_words.specs.declared.table.Kind.{Kind}
use Rattle.cli_words.specs.declared.table.OptionName.{OptionName}
use Rattle.cli_words.specs.declared.table.Offer.{Offer}
use Rattle.cli_words.proofs.Clap.{words_there, options_there}
use Rattle.cli_words.proofs.Cutting.{spelt_from, spelt_to}
use Rattle.cli_words.proofs.Options.{same_option, listed}

-- From what is found to what the pieces say.

same_meanings : (f : Text → Option Text) (ws : List (Text × Kind)) (texts : List Text)
    → map f (map (λ w. w.0) ws) ≡ map (λ (x : Text). Some x) texts → words_found f ws ≡ meanings (map (λ w. w.1) ws) texts
same_meanings f [] [] h = refl
same_meanings f [] (t ∷ texts) h = cc
same_meanings f (w ∷ ws) [] h = cc
same_meanings f (w ∷ ws) (t ∷ texts) h =
    let both = cons_same (f w.0) (Some t) (map f (map (λ w. w.0) ws)) (map (λ (x : Text). Some x) texts) h in
    ap (λ (x : Option Text). option_and_then (λ m. option_map (λ ms. m ∷ ms) (words_found f ws)) (option_and_then (meaning_of w.1) x)) both.0
    ∙ ap (λ (x : Option (List Meaning)). option_and_then (λ m. option_map (λ ms. m ∷ ms) x) (meaning_of w.1 t)) (same_meanings f ws texts both.1)

full : (value : Option Text) → ((v : Text) → value ≡ Some v → v ≢ []) → nonempty (Some (or_empty value)) ≡ value
full None some = refl
full (Some []) some = absurd (some [] refl refl)
full (Some (c ∷ cs)) some = refl

among : {X : Type 0} (f g : OptionName → X) (os : List OptionName) (o : OptionName) → map f os ≡ map g os
    → list_any (is_same o) os ≡ true → f o ≡ g o
among f g [] o same there = cc
among f g (p ∷ os) o same there =
    let both = cons_same (f p) (g p) (map f os) (map g os) same in
    elim (either_true (is_same o p) (list_any (is_same o) os) there) [
      | inl here ↦ let is = same_option o p here in ap f is ∙ both.0 ∙ sym (ap g is)
      | inr more ↦ among f g os o both.1 more
    ]

-- an option of the row, as it is found and as it is given
as_given : {c : Command} {pieces : List Piece} {list : List Text} (m : ArgMatches) → Fits c pieces → list ≡ canonical c pieces
    → HasMatchesOf (app_for c) list m → (o : OptionName) → list_any (is_same o) (row c).options ≡ true
    → option_found (first_value (found_of m)) o ≡ said_by (option_row o).kind (value_given o pieces)
as_given {c} {pieces} m fits same has o there =
    let at = among (λ o. first_value (found_of m) (option_name o)) (λ o. Some (or_empty (value_given o pieces))) (row c).options o
    (options_there m fits same has) there in
    ap (λ (x : Option Text). said_by (option_row o).kind (nonempty x)) at
    ∙ ap (said_by (option_row o).kind) (full (value_given o pieces) (fits.some o))

pub found_means : {c : Command} {pieces : List Piece} {list : List Text} (m : ArgMatches) (said : Said) → Fits c pieces
    → list ≡ canonical c pieces → HasMatchesOf (app_for c) list m
    → words_found (first_value (found_of m)) (row c).words ≡ Some said.words
    → AreFound (first_value (found_of m)) (row c).options said.option → Means c pieces said
found_means {c} {pieces} m said fits same has words found = record {
  words = sym (same_meanings (first_value (found_of m)) (row c).words (words_of pieces) (words_there m fits same has)) ∙ words;
  options = λ o. by o (list_any (is_same o) (row c).options) refl;
}
  where
    by : (o : OptionName) (b : Bool) → list_any (is_same o) (row c).options ≡ b → said_by (option_row o).kind (value_given o pieces) ≡ Some (said.option o)
    by o true there = sym (as_given m fits same has o there) ∙ found.there o there
    by o false there =
        ap (said_by (option_row o).kind) (fits.options o there) ∙ ap (λ (x : Option Meaning). Some x) (sym (found.others o there))

pub found_wrong : {c : Command} {pieces : List Piece} {list : List Text} (m : ArgMatches) → Fits c pieces
    → list ≡ canonical c pieces → HasMatchesOf (app_for c) list m
    → (words_found (first_value (found_of m)) (row c).words ≡ None) ⊎ IsOneWrong (first_value (found_of m)) (row c).options
    → (said : Said) → ¬ (Means c pieces said)
found_wrong {c} {pieces} m fits same has (inl none) said means =
    let is : None ≡ Some said.words =
    sym none ∙ same_meanings (first_value (found_of m)) (row c).words (words_of pieces) (words_there m fits same has) ∙ means.words in
    cc
found_wrong {c} {pieces} m fits same has (inr (o, there, none)) said means =
    let is : None ≡ Some (said.option o) = sym none ∙ as_given m fits same has o there ∙ means.options o in
    cc

pub all_means : (c : Command) (list : List Text) (m : ArgMatches) (r : Result Filled WordsError) → HasMatchesOf (app_for c) list m
    → IfOk r (λ line. words_found (first_value (found_of m)) (row c).words ≡ Some (said_in line).words)
    → IfOk r (λ line. AreFound (first_value (found_of m)) (row c).options (said_in line).option)
    → IfOk r (λ line. (pieces : List Piece) → Fits c pieces → list ≡ canonical c pieces → Means c pieces (said_in line))
all_means c list m (Ok line) has words found = λ pieces fits same. found_means m (said_in line) fits same has words found
all_means c list m (Err e) has words found = tt

-- From pieces to the grammar, and back.

given_from : (takes : Bool) (kind : Kind) (values : List Text) (m : Option Meaning) → is_allowed takes values ≡ true
    → said_by kind (slice_get values 0) ≡ Some m → IsGiven takes kind values m
given_from takes kind [] m allowed says = absent refl (sym (same_some None m says))
given_from takes kind (v ∷ []) m allowed says =
    let (n, is, same) = mapped_some (λ (x : Meaning). Some x) (meaning_of kind v) m says in
    once v n refl allowed is same
given_from takes kind (v ∷ w ∷ values) m allowed says = cc

given_to : (takes : Bool) (kind : Kind) (values : List Text) (m : Option Meaning) → IsGiven takes kind values m
    → (is_allowed takes values ≡ true) × (said_by kind (slice_get values 0) ≡ Some m)
given_to takes kind values m (absent e q) =
    (ap (is_allowed takes) e, ap (λ (x : List Text). said_by kind (slice_get x 0)) e ∙ ap (λ (x : Option Meaning). Some x) (sym q))
given_to takes kind values m (once v n e t k q) = (
  ap (is_allowed takes) e ∙ t,
  ap (λ (x : List Text). said_by kind (slice_get x 0)) e ∙ ap (option_map (λ (x : Meaning). Some x)) k ∙ ap (λ (x : Option Meaning). Some x) (sym q),
)

pub all_of : (p : OptionName → Bool) (os : List OptionName) (o : OptionName) → list_all p os ≡ true → list_any (is_same o) os ≡ true → p o ≡ true
all_of p [] o all there = cc
all_of p (q ∷ os) o all there =
    let both = both_true (p q) (list_all p os) all in
    elim (either_true (is_same o q) (list_any (is_same o) os) there) [
      | inl here ↦ ap p (same_option o q here) ∙ both.0
      | inr more ↦ all_of p os o both.1 more
    ]

pub each_of : (p : OptionName → Bool) (os : List OptionName) → ((o : OptionName) → p o ≡ true) → list_all p os ≡ true
each_of p [] each = refl
each_of p (o ∷ os) each = true_both (p o) (list_all p os) (each o) (each_of p os each)

allowed_of : (offers : List Offer) (c : Command) (pieces : List Piece) → is_taken offers c pieces ≡ true
    → (o : OptionName) → is_allowed (takes_option offers c o) (given o pieces) ≡ true
allowed_of offers c pieces taken o =
    all_of (λ o. is_allowed (takes_option offers c o) (given o pieces)) options o
    (both_true (are_allowed offers c pieces) (length (words_of pieces) == length (row c).words) taken).0 (listed o)

pub line_says : {offers : List Offer} {c : Command} {words : List Text} {pieces : List Piece} (said : Said)
    → IsLine offers c words pieces → Means c pieces said → Say offers c words said
line_says {offers} {c} {words} {pieces} said line means = record {
  offered = line.offered;
  pieces = pieces;
  spelt = spelt_from words pieces line.spelt;
  positional = means.words;
  options = λ o. given_from (takes_option offers c o) (option_row o).kind (given o pieces) (said.option o)
      (allowed_of offers c pieces line.taken o) (means.options o);
}

same_count : (ks : List Kind) (words : List Text) (ms : List Meaning) → meanings ks words ≡ Some ms → length words ≡ length ks
same_count [] [] ms h = refl
same_count [] (w ∷ words) ms h = cc
same_count (k ∷ ks) [] ms h = cc
same_count (k ∷ ks) (w ∷ words) ms h = more (meaning_of k w) (meanings ks words) (same_count ks words) h
  where
    more : (first : Option Meaning) (rest : Option (List Meaning)) → ((ms : List Meaning) → rest ≡ Some ms → length words ≡ length ks)
        → option_and_then (λ m. option_map (λ ms. m ∷ ms) rest) first ≡ Some ms → length (w ∷ words) ≡ length (k ∷ ks)
    more None rest ih h = cc
    more (Some m) None ih h = cc
    more (Some m) (Some ns) ih h = let e = ih ns refl in omega arith

length_kinds : (ws : List (Text × Kind)) → length (map (λ w. w.1) ws) ≡ length ws
length_kinds [] = refl
length_kinds (w ∷ ws) = let e = length_kinds ws in omega arith

pub say_line : {offers : List Offer} {c : Command} {words : List Text} {said : Said} (say : Say offers c words said)
    → IsLine offers c words say.pieces × Means c say.pieces said
say_line {offers} {c} {words} {said} say =
    let kind_of : (o : OptionName) → (is_allowed (takes_option offers c o) (given o say.pieces) ≡ true)
    × (said_by (option_row o).kind (value_given o say.pieces) ≡ Some (said.option o)) =
    λ o. given_to (takes_option offers c o) (option_row o).kind (given o say.pieces) (said.option o) (say.options o) in
    let count : length (words_of say.pieces) ≡ length (row c).words =
    same_count (kinds c) (words_of say.pieces) said.words say.positional ∙ length_kinds (row c).words in (
      record {
        offered = say.offered;
        spelt = spelt_to words say.pieces say.spelt;
        taken = true_both (are_allowed offers c say.pieces) (length (words_of say.pieces) == length (row c).words)
            (each_of (λ o. is_allowed (takes_option offers c o) (given o say.pieces)) options (λ o. (kind_of o).0))
            (grind (arith, nat_tests));
      },
      record { words = say.positional; options = λ o. (kind_of o).1 },
    )

-- a line says one thing at most
pub means_once : (c : Command) (pieces : List Piece) (a b : Said) → Means c pieces a → Means c pieces b → a ≡ b
means_once c pieces a b first second =
    let words : a.words ≡ b.words = same_some a.words b.words (sym first.words ∙ second.words) in
    let options : a.option ≡ b.option = fun_ext (λ o. same_some (a.option o) (b.option o) (sym (first.options o) ∙ second.options o)) in
    ap (λ (x : List Meaning). record { words = x; option = a.option }) words
    ∙ ap (λ (x : OptionName → Option Meaning). record { words = b.words; option = x }) options

pub one_line : {offers : List Offer} {c : Command} {words : List Text} {pieces more : List Piece}
    → IsLine offers c words pieces → IsLine offers c words more → pieces ≡ more
one_line {offers} {c} {words} {pieces} {more} a b = same_some pieces more (sym a.spelt ∙ b.spelt)

-- A line that is taken fits its row.

value_some : (o : OptionName) (pieces : List Piece) (words : List Text) → SpellAll pieces words → (v : Text) → value_given o pieces ≡ Some v → v ≢ []
value_some o [] words all v e = cc
value_some o (word w ∷ pieces) words (front, rest, (spells, (is, all))) v e = value_some o pieces rest all v e
value_some o (option p value ∷ pieces) words (front, rest, (spells, (is, all))) v e = by (is_same o p) (value_some o pieces rest all v) e
  where
    some : value ≢ []
    some = elim spells [ inl joined ↦ joined.0 | inr apart ↦ apart.0.0 ]

    by : (b : Bool) → (value_given o pieces ≡ Some v → v ≢ []) → slice_get (cond b (value ∷ given o pieces) (given o pieces)) 0 ≡ Some v → v ≢ []
    by true more e = let same = same_some value v e in subst (λ (x : Text). x ≢ []) same some
    by false more e = more e

-- words behind the front give nothing to options
given_front : (o : OptionName) (front : List Piece) (behind : List Text) → given o (front ++ map word behind) ≡ given o front
given_front o [] [] = refl
given_front o [] (w ∷ behind) = given_front o [] behind
given_front o (word w ∷ front) behind = given_front o front behind
given_front o (option p value ∷ front) behind =
    ap (λ (x : List Text). cond (is_same o p) (value ∷ x) x) (given_front o front behind)

spelt_some : (o : OptionName) (pieces : List Piece) (words : List Text) → IsSpelt words pieces → (v : Text) → value_given o pieces ≡ Some v → v ≢ []
spelt_some o pieces words (whole all) v e = value_some o pieces words all v e
spelt_some o pieces words (divided front before behind all none e same) v given_value =
    let is : value_given o front ≡ Some v =
    ap (λ (x : List Text). slice_get x 0) (sym (given_front o front behind) ∙ ap (given o) (sym same)) ∙ given_value in
    value_some o front before all v is

not_taken : (takes : Bool) (values : List Text) → takes ≡ false → is_allowed takes values ≡ true → slice_get values 0 ≡ None
not_taken takes [] un allowed = refl
not_taken takes (v ∷ []) un allowed = (let bad : true ≡ false = sym allowed ∙ un in cc)
not_taken takes (v ∷ w ∷ values) un allowed = cc

lacks : (offers : List Offer) (c : Command) (o : OptionName) → list_any (is_same o) (row c).options ≡ false → takes_option offers c o ≡ false
lacks offers c o h = rw h refl

pub line_fits : {offers : List Offer} {c : Command} {words : List Text} {pieces : List Piece} → IsLine offers c words pieces → Fits c pieces
line_fits {offers} {c} {words} {pieces} line =
    let count = (both_true (are_allowed offers c pieces) (length (words_of pieces) == length (row c).words) line.taken).1 in
    record {
      words = grind (arith, nat_tests, count);
      options = λ o h. not_taken (takes_option offers c o) (given o pieces) (lacks offers c o h) (allowed_of offers c pieces line.taken o);
      some = λ o v e. spelt_some o pieces words (spelt_from words pieces line.spelt) v e;
    }
