-- On the canonical list of a line that fits, the command of its row succeeds, and finds the values of the line.
use Rattle.std.proofs.Common.{◌≡◌, ℕ, zero, suc, ◌+◌, true, List, [], ◌∷◌, ◌++◌, length, map, get_or, Some, refl, sym, ◌∙◌, ap, ap₂, subst, arith}
use Rattle.std.specs.Prelude.{codes}
use Rattle.clap.specs.Words.{App, HasMatchesOf, takes, is_simple, matches_of, first_of, first_value, found_of}
use Rattle.clap.specs.declared.parser.matches.ArgMatches.{ArgMatches}
use Rattle.clap.proofs.WalkLemmas.{first_value-rows}
use Rattle.clap.proofs.OnLiterals.{clap_on_literals}
use Rattle.text_lines.specs.Text.{Text}
use Rattle.cli_words.specs.Table.{row, ids, flag, option_name}
use Rattle.cli_words.specs.Grammar.{Piece, words_of}
use Rattle.cli_words.specs.Pass.{value_given}
use Rattle.cli_words.specs.Canon.{app_for, or_empty, option_words, canonical, Fits}
use Rattle.cli_words.specs.declared.table.Command.{Command}
use Rattle.cli_words.specs.declared.table.Command.TheVariants.{Plain, Needs, Deal, Local}
use Rattle.cli_words.specs.declared.table.OptionName.{OptionName}

-- The list of a command with any texts as the values of its options and as its words.

abbrev options_with : List OptionName → (OptionName → Text) → List Text
options_with [] v = []
options_with (o ∷ os) v = (flag o ++ (codes "=" ++ v o)) ∷ options_with os v

abbrev words_with : ℕ → ℕ → (ℕ → Text) → List Text
words_with at zero w = []
words_with at (suc n) w = w at ∷ words_with (suc at) n w

abbrev list_with : Command → (OptionName → Text) → (ℕ → Text) → List Text
list_with c v w = options_with (row c).options v ++ (codes "--" ∷ words_with 0 (length (row c).words) w)

-- the command takes the list, and finds each value
record Finds (c : Command) (list : List Text) (v : OptionName → Text) (ws : List Text) : Type 0 where
  simple : is_simple (app_for c) ≡ true
  taken : takes (app_for c) list ≡ true
  options : map (λ o. first_of (option_name o) (matches_of (app_for c) list)) (row c).options ≡ map (λ o. Some (v o)) (row c).options
  words : map (λ id. first_of id (matches_of (app_for c) list)) (ids c) ≡ map (λ (x : Text). Some x) ws

finds : (c : Command) (v : OptionName → Text) (w : ℕ → Text) → Finds c (list_with c v w) v (words_with 0 (length (row c).words) w)
unfolding clap_on_literals
finds Plain v w = record { simple = refl; taken = refl; options = refl; words = refl }
finds Needs v w = record { simple = refl; taken = refl; options = refl; words = refl }
finds Deal v w = record { simple = refl; taken = refl; options = refl; words = refl }
finds Local v w = record { simple = refl; taken = refl; options = refl; words = refl }

-- The canonical list of a line that fits is one of these.

values : List Piece → OptionName → Text
values pieces o = or_empty (value_given o pieces)

same_options : (os : List OptionName) (pieces : List Piece) → option_words os pieces ≡ options_with os (values pieces)
unfolding values
same_options [] pieces = refl
same_options (o ∷ os) pieces = ap (λ (x : List Text). (flag o ++ (codes "=" ++ or_empty (value_given o pieces))) ∷ x) (same_options os pieces)

same_words : (ws : List Text) (at : ℕ) (w : ℕ → Text) → ((i : ℕ) → get_or ws i [] ≡ w (at + i)) → words_with at (length ws) w ≡ ws
same_words [] at w each = refl
same_words (x ∷ ws) at w each =
    let first : w at ≡ x = ap w (let e : at ≡ at + 0 = omega arith in e) ∙ sym (each 0) in
    let rest = same_words ws (suc at) w (λ i. each (suc i) ∙ ap w (let e : at + suc i ≡ suc at + i = omega arith in e)) in
    ap₂ (λ (a : Text) (b : List Text). a ∷ b) first rest

found_on : (c : Command) (pieces : List Piece) → Fits c pieces → Finds c (canonical c pieces) (values pieces) (words_of pieces)
found_on c pieces fits =
    let w : ℕ → Text = λ i. get_or (words_of pieces) i [] in
    let words : words_with 0 (length (row c).words) w ≡ words_of pieces =
    ap (λ n. words_with 0 n w) (sym fits.words) ∙ same_words (words_of pieces) 0 w (λ i. ap w (let e : i ≡ 0 + i = omega arith in e)) in
    let list : list_with c (values pieces) w ≡ canonical c pieces =
    ap₂ (λ (a b : List Text). a ++ (codes "--" ∷ b)) (sym (same_options (row c).options pieces)) words in
    let P : List Text → Type 0 = λ x. Finds c x (values pieces) (words_with 0 (length (row c).words) w) in
    let Q : List Text → Type 0 = λ x. Finds c (canonical c pieces) (values pieces) x in
    subst Q words (subst P list (finds c (values pieces) w))

-- `clap` takes the canonical list of a line that fits
pub list_taken : {c : Command} {pieces : List Piece} {app : App} {list : List Text} → app ≡ app_for c → Fits c pieces
    → list ≡ canonical c pieces → takes app list ≡ true
list_taken {c} {pieces} is fits same = ap₂ takes is same ∙ (found_on c pieces fits).taken

found_there : {c : Command} {pieces : List Piece} {list : List Text} (m : ArgMatches) → Fits c pieces → list ≡ canonical c pieces
    → HasMatchesOf (app_for c) list m → (id : Text) → first_value (found_of m) id ≡ first_of id (matches_of (app_for c) (canonical c pieces))
found_there {c} {pieces} m fits same has id =
    let rows = (has (found_on c pieces fits).simple).0 ∙ ap (matches_of (app_for c)) same in
    first_value-rows (found_of m) id ∙ ap (first_of id) rows

map_same : {X Y : Type 0} (f g : X → Y) (xs : List X) → ((x : X) → f x ≡ g x) → map f xs ≡ map g xs
map_same f g [] h = refl
map_same {X} {Y} f g (x ∷ xs) h = ap₂ (λ (a : Y) (b : List Y). a ∷ b) (h x) (map_same f g xs h)

-- what `clap` finds for the words of the row are the words of the line
pub words_there : {c : Command} {pieces : List Piece} {list : List Text} (m : ArgMatches) → Fits c pieces → list ≡ canonical c pieces
    → HasMatchesOf (app_for c) list m → map (first_value (found_of m)) (ids c) ≡ map (λ (x : Text). Some x) (words_of pieces)
words_there {c} {pieces} m fits same has =
    map_same (first_value (found_of m)) (λ id. first_of id (matches_of (app_for c) (canonical c pieces))) (ids c) (found_there m fits same has)
    ∙ (found_on c pieces fits).words

-- and what it finds for its options are their values, or the empty text
pub options_there : {c : Command} {pieces : List Piece} {list : List Text} (m : ArgMatches) → Fits c pieces → list ≡ canonical c pieces
    → HasMatchesOf (app_for c) list m
    → map (λ o. first_value (found_of m) (option_name o)) (row c).options ≡ map (λ o. Some (or_empty (value_given o pieces))) (row c).options
unfolding values
options_there {c} {pieces} m fits same has =
    map_same (λ o. first_value (found_of m) (option_name o)) (λ o. first_of (option_name o) (matches_of (app_for c) (canonical c pieces))) (row c).options
    (λ o. found_there m fits same has (option_name o))
    ∙ (found_on c pieces fits).options
