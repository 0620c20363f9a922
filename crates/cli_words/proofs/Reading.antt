-- The reading gives exactly the request that the words ask for.
use Rattle.std.proofs.Common.{◌≡◌, Bool, true, false, List, [], ◌∷◌, Some, None, Option, cond, refl, sym, ◌∙◌, ap, subst, inl, inr}
use Rattle.std.specs.Prelude.{◌⊎◌, Result, Ok, Err, IfOk, bytes_eq, find, is_some, unwrap_or}
use Rattle.std.specs.List.{list_all}
use Rattle.std.proofs.lemmas.Slice.Eq.{bytes_eq-Decides}
use Rattle.mot_base.proofs.Lists.{same_some, mapped_some, cons_same}
use Rattle.text_lines.specs.Text.{Text}
use Rattle.cli_words.specs.Table.{Meaning, row, option_row, options, commands, kinds, command_named}
use Rattle.cli_words.specs.Request.{Request, Said, command_of, plain, needs, deal, local, request_said, request_of}
use Rattle.cli_words.specs.Grammar.{Piece, words_of, is_offered, takes_option, meanings, IsGiven, absent, once, Say, Asks, AsksAs}
use Rattle.cli_words.specs.Pass.{cut, is_taken, value_given, said_by, Means, IsLine}
use Rattle.cli_words.specs.declared.table.Command.{Command}
use Rattle.cli_words.specs.declared.table.Command.TheVariants.{Plain, Needs, Deal, Local}
use Rattle.cli_words.specs.declared.table.OptionName.{OptionName}
use Rattle.cli_words.specs.declared.table.Offer.{Offer}
use Rattle.cli_words.specs.declared.pass.State.TheVariants.{Between}
use Rattle.cli_words.specs.declared.read.WordsError.{WordsError}
use Rattle.cli_words.specs.declared.words.CommandWords.{CommandWords}
use Rattle.cli_words.proofs.Options.{listed}
use Rattle.cli_words.proofs.Says.{line_says, say_line, means_once, one_line, all_of, each_of}

-- The name.

found_passes : {X : Type 0} (p : X → Bool) (xs : List X) (x : X) → find p xs ≡ Some x → p x ≡ true
found_passes p [] x h = cc
found_passes {X} p (y ∷ ys) x h = go (p y) refl (found_passes p ys x) h
  where
    go : (b : Bool) → p y ≡ b → (find p ys ≡ Some x → p x ≡ true) → cond b (Some y) (find p ys) ≡ Some x → p x ≡ true
    go true is more h = ap p (sym (same_some y x h)) ∙ is
    go false is more h = more h

pub named_from : (name : Text) (c : Command) → command_named name ≡ Some c → name ≡ (row c).text
named_from name c h =
    sym ((bytes_eq-Decides (row c).text name).0 (found_passes (λ c. bytes_eq (row c).text name) commands c h))

pub named_row : (c : Command) → command_named (row c).text ≡ Some c
named_row Plain = refl
named_row Needs = refl
named_row Deal = refl
named_row Local = refl

-- a name is the name of one command
pub one_name : (a b : Command) → (row a).text ≡ (row b).text → a ≡ b
one_name a b same = same_some a b (sym (named_row a) ∙ ap command_named same ∙ named_row b)

-- What is asked.

-- what is asked behind the name of a command is asked of it
pub record Behind (offers : List Offer) (command : Command) (words : List Text) (r : Request) : Type 0 where
  pub said : Said
  pub say : Say offers command words said
  pub asked : request_said command said ≡ Some r

pub behind : (offers : List Offer) (name : Text) (words : List Text) (command : Command) (r : Request) → name ≡ (row command).text
    → Asks offers (name ∷ words) r → Behind offers command words r
behind offers name words command r named asks =
    let both = cons_same name (row asks.command).text words asks.rest asks.named in
    let same : asks.command ≡ command = one_name asks.command command (sym both.0 ∙ named) in
    let P : Command → Type 0 = λ c. Say offers c words asks.said × (request_said c asks.said ≡ Some r) in
    let Q : List Text → Type 0 = λ ws. Say offers asks.command ws asks.said in
    let (say, asked) = subst P same (subst Q (sym both.1) asks.say, asks.asked) in
    record { said = asks.said; say = say; asked = asked }

say_once : {offers : List Offer} {command : Command} {words : List Text} (a b : Said) → Say offers command words a → Say offers command words b → a ≡ b
say_once {offers} {command} {words} a b first second =
    let (line, means) = say_line first in
    let (other, more) = say_line second in
    let P : List Piece → Type 0 = λ pieces. Means command pieces b in
    means_once command first.pieces a b means (subst P (one_line other line) more)

pub one_request : (offers : List Offer) (words : List Text) (a b : Request) → Asks offers words a → Asks offers words b → a ≡ b
one_request offers words a b first second =
    let P : List Text → Type 0 = λ ws. Asks offers ws b in
    let other = behind offers (row first.command).text first.rest first.command b refl (subst P first.named second) in
    let same = say_once first.said other.said first.say other.say in
    same_some a b (sym first.asked ∙ ap (request_said first.command) same ∙ other.asked)

-- the request of a command is one of it
pub of_command : (c : Command) (said : Said) (r : Request) → request_said c said ≡ Some r → command_of r ≡ c
of_command Plain said r h = let (p, is, same) = mapped_some plain _ r h in ap command_of same
of_command Needs said r h = let (p, is, same) = mapped_some needs _ r h in ap command_of same
of_command Deal said r h = let (p, is, same) = mapped_some deal _ r h in ap command_of same
of_command Local said r h = let (p, is, same) = mapped_some local _ r h in ap command_of same

pub asks_of_its_command : (offers : List Offer) (command : Command) (words : List Text) (r : Request)
    → AsksAs offers command words r → command_of r ≡ command
asks_of_its_command offers command words r asks =
    let there = behind offers (row command).text words command r refl asks in
    of_command command there.said r there.asked

not_given : (takes : Bool) (kind : _) (values : List Text) (m : Option Meaning) → IsGiven takes kind values m → takes ≡ false → m ≡ None
not_given takes kind values m (absent e q) h = q
not_given takes kind values m (once v n e t k q) h = cc

pub option_is_absent : (offers : List Offer) (command : Command) (words : List Text) (said : Said) (o : OptionName)
    → Say offers command words said → takes_option offers command o ≡ false → said.option o ≡ None
option_is_absent offers command words said o say h = not_given _ _ _ _ (say.options o) h

-- From the steps of the reading.

pub asks_behind : {offers : List Offer} {command : Command} {words : List Text} (said : Said) (r : Request)
    → Say offers command words said → request_said command said ≡ Some r → AsksAs offers command words r
asks_behind {offers} {command} {words} said r say asked = record {
  command = command;
  rest = words;
  said = said;
  named = refl;
  say = say;
  asked = asked;
}

-- nothing is asked where the words say nothing
pub nothing_said : {offers : List Offer} {command : Command} {words : List Text} → ((said : Said) → ¬ (Say offers command words said))
    → (r : Request) → ¬ (AsksAs offers command words r)
nothing_said {offers} {command} {words} none r asks =
    let there = behind offers (row command).text words command r refl asks in
    none there.said there.say

-- or where they say nothing that asks for something
pub nothing_asked : {offers : List Offer} {command : Command} {words : List Text} (said : Said) → Say offers command words said
    → request_said command said ≡ None → (r : Request) → ¬ (AsksAs offers command words r)
nothing_asked {offers} {command} {words} said say none r asks =
    let there = behind offers (row command).text words command r refl asks in
    let is : None ≡ Some r = sym none ∙ ap (request_said command) (say_once said there.said say there.say) ∙ there.asked in
    cc

-- a line that means nothing says nothing
pub nothing_meant : {offers : List Offer} {command : Command} {words : List Text} {pieces : List Piece} → IsLine offers command words pieces
    → ((said : Said) → ¬ (Means command pieces said)) → (said : Said) → ¬ (Say offers command words said)
nothing_meant {offers} {command} {words} {pieces} line none said say =
    let (other, means) = say_line say in
    let P : List Piece → Type 0 = λ pieces. Means command pieces said in
    none said (subst P (one_line other line) means)

pub no_line : {offers : List Offer} {command : Command} {words : List Text} → ((pieces : List Piece) → ¬ (IsLine offers command words pieces))
    → (said : Said) → ¬ (Say offers command words said)
no_line {offers} {command} {words} none said say = none say.pieces (say_line say).0

pub not_cut : {offers : List Offer} {command : Command} {words : List Text} → cut Between words ≡ None
    → (said : Said) → ¬ (Say offers command words said)
not_cut {offers} {command} {words} none said say = (let is : None ≡ Some say.pieces = sym none ∙ (say_line say).0.spelt in cc)

pub not_taken : {offers : List Offer} {command : Command} {words : List Text} (pieces : List Piece) → cut Between words ≡ Some pieces
    → is_taken offers command pieces ≡ false → (said : Said) → ¬ (Say offers command words said)
not_taken {offers} {command} {words} pieces spelt none said say =
    let line = (say_line say).0 in
    let same : pieces ≡ say.pieces = same_some pieces say.pieces (sym spelt ∙ line.spelt) in
    let is : true ≡ false = sym line.taken ∙ ap (is_taken offers command) (sym same) ∙ none in
    cc

pub not_offered : {offers : List Offer} {command : Command} {words : List Text} → is_offered offers command ≡ false
    → (said : Said) → ¬ (Say offers command words said)
not_offered none said say = (let is : true ≡ false = sym say.offered ∙ none in cc)

pub all_asked : {offers : List Offer} {command : Command} {words : List Text} (said : Said) (r : Result CommandWords WordsError)
    → Say offers command words said → IfOk r (λ w. request_said command said ≡ Some (request_of w))
    → IfOk r (λ w. AsksAs offers command words (request_of w))
all_asked {offers} {command} {words} said (Ok w) say asked = asks_behind said (request_of w) say asked
all_asked {offers} {command} {words} said (Err e) say asked = tt

-- The name in front.

pub no_words : (offers : List Offer) (r : Request) → ¬ (Asks offers [] r)
no_words offers r asks = (let e = asks.named in cc)

pub not_named : (offers : List Offer) (name : Text) (rest : List Text) → command_named name ≡ None → (r : Request) → ¬ (Asks offers (name ∷ rest) r)
not_named offers name rest none r asks =
    let both = cons_same name (row asks.command).text rest asks.rest asks.named in
    let is : None ≡ Some asks.command = sym none ∙ ap command_named both.0 ∙ named_row asks.command in
    cc

pub ok_map : {X E : Type 0} (P Q : X → Type 0) → ((x : X) → P x → Q x) → (r : Result X E) → IfOk r P → IfOk r Q
ok_map P Q f (Ok x) h = f x h
ok_map P Q f (Err e) h = h

pub whole_line : {c : Command} {name : Text} {rest words : List Text} → words ≡ name ∷ rest → command_named name ≡ Some c
    → words ≡ (row c).text ∷ rest
whole_line {c} {name} {rest} is named = is ∙ ap (λ (x : Text). x ∷ rest) (named_from name c named)

pub as_whole : (offers : List Offer) (c : Command) (name : Text) (rest words : List Text) → words ≡ name ∷ rest
    → command_named name ≡ Some c → (r : Result CommandWords WordsError)
    → IfOk r (λ w. AsksAs offers c rest (request_of w)) → IfOk r (λ w. Asks offers words (request_of w))
as_whole offers c name rest words is named r h =
    ok_map (λ (w : CommandWords). AsksAs offers c rest (request_of w)) (λ w. Asks offers words (request_of w))
    (λ w asks. subst (λ (x : List Text). Asks offers x (request_of w)) (sym (whole_line is named)) asks) r h

pub as_none : (offers : List Offer) (c : Command) (name : Text) (rest words : List Text) → words ≡ name ∷ rest
    → command_named name ≡ Some c → ((r : Request) → ¬ (AsksAs offers c rest r)) → (r : Request) → ¬ (Asks offers words r)
as_none offers c name rest words is named none r asks =
    none r (subst (λ (x : List Text). Asks offers x r) (whole_line is named) asks)

-- Words ask for something or they do not.

abbrev AskedOrNot : List Offer → List Text → Type 0
AskedOrNot offers words = ((r : Request) × Asks offers words r) ⊎ ((r : Request) → ¬ (Asks offers words r))

some_is : {X : Type 0} (o : Option X) (d : X) → is_some o ≡ true → o ≡ Some (unwrap_or o d)
some_is None d h = cc
some_is (Some x) d h = refl

is_there : {X : Type 0} (o : Option X) (x : X) → o ≡ Some x → is_some o ≡ true
is_there None x h = cc
is_there (Some y) x h = refl

abbrev option_says : List Piece → OptionName → Option (Option Meaning)
option_says pieces o = said_by (option_row o).kind (value_given o pieces)

means_or_not : (c : Command) (pieces : List Piece) → ((said : Said) × Means c pieces said) ⊎ ((said : Said) → ¬ (Means c pieces said))
means_or_not c pieces = by_words (meanings (kinds c) (words_of pieces)) refl
  where
    by_options : (ms : List Meaning) → meanings (kinds c) (words_of pieces) ≡ Some ms → (b : Bool)
        → list_all (λ o. is_some (option_says pieces o)) options ≡ b
        → ((said : Said) × Means c pieces said) ⊎ ((said : Said) → ¬ (Means c pieces said))
    by_options ms words true all = inl (
      record { words = ms; option = λ o. unwrap_or (option_says pieces o) None },
      record { words = words; options = λ o. some_is (option_says pieces o) None (all_of (λ o. is_some (option_says pieces o)) options o all (listed o)) },
    )
    by_options ms words false all = inr (λ said means.
        let is : true ≡ false = sym (each_of (λ o. is_some (option_says pieces o)) options (λ o. is_there (option_says pieces o) (said.option o) (means.options o))) ∙ all in
        cc)

    by_words : (o : Option (List Meaning)) → meanings (kinds c) (words_of pieces) ≡ o
        → ((said : Said) × Means c pieces said) ⊎ ((said : Said) → ¬ (Means c pieces said))
    by_words None words = inr (λ said means. let is : None ≡ Some said.words = sym words ∙ means.words in cc)
    by_words (Some ms) words = by_options ms words (list_all (λ o. is_some (option_says pieces o)) options) refl

says_or_not : (offers : List Offer) (c : Command) (words : List Text) → ((said : Said) × Say offers c words said) ⊎ ((said : Said) → ¬ (Say offers c words said))
says_or_not offers c words = by_offer (is_offered offers c) refl
  where
    by_taken : is_offered offers c ≡ true → (pieces : List Piece) → cut Between words ≡ Some pieces → (b : Bool) → is_taken offers c pieces ≡ b
        → ((said : Said) × Say offers c words said) ⊎ ((said : Said) → ¬ (Say offers c words said))
    by_taken offered pieces spelt false taken = inr (not_taken pieces spelt taken)
    by_taken offered pieces spelt true taken =
        let line : IsLine offers c words pieces = record { offered = offered; spelt = spelt; taken = taken } in
        elim (means_or_not c pieces) [
          | inl means ↦ inl (means.0, line_says means.0 line means.1)
          | inr none ↦ inr (nothing_meant line none)
        ]

    by_cut : is_offered offers c ≡ true → (o : Option (List Piece)) → cut Between words ≡ o
        → ((said : Said) × Say offers c words said) ⊎ ((said : Said) → ¬ (Say offers c words said))
    by_cut offered None spelt = inr (not_cut spelt)
    by_cut offered (Some pieces) spelt = by_taken offered pieces spelt (is_taken offers c pieces) refl

    by_offer : (b : Bool) → is_offered offers c ≡ b → ((said : Said) × Say offers c words said) ⊎ ((said : Said) → ¬ (Say offers c words said))
    by_offer false offered = inr (not_offered offered)
    by_offer true offered = by_cut offered (cut Between words) refl

pub asked : (offers : List Offer) (words : List Text) → AskedOrNot offers words
asked offers [] = inr (no_words offers)
asked offers (name ∷ rest) = by_name (command_named name) refl
  where
    by_request : (c : Command) → command_named name ≡ Some c → (said : Said) → Say offers c rest said → (o : Option Request)
        → request_said c said ≡ o → AskedOrNot offers (name ∷ rest)
    by_request c named said say None asks = inr (as_none offers c name rest (name ∷ rest) refl named (nothing_asked said say asks))
    by_request c named said say (Some r) asks = inl (
      r,
      record {
        command = c;
        rest = rest;
        said = said;
        named = ap (λ (x : Text). x ∷ rest) (named_from name c named);
        say = say;
        asked = asks;
      },
    )

    by_name : (o : Option Command) → command_named name ≡ o → AskedOrNot offers (name ∷ rest)
    by_name None named = inr (not_named offers name rest named)
    by_name (Some c) named = elim (says_or_not offers c rest) [
      | inl says ↦ by_request c named says.0 says.1 (request_said c says.0) refl
      | inr none ↦ inr (as_none offers c name rest (name ∷ rest) refl named (nothing_said none))
    ]
