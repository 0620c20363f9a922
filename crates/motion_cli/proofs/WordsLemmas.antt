-- What words ask for, whichever list of offers says what is run.
use Rattle.std.proofs.Common.{◌≡◌, ◌≢◌, Bool, ◌&&◌, ◌||◌, List, [], ◌∷◌, map, refl, sym, ◌∙◌, ap, subst}
use Rattle.std.specs.List.{list_any}
use Rattle.cli_words.specs.Table.{row, option_row, is_command, is_same}
use Rattle.cli_words.specs.Grammar.{is_offered, is_run_with, takes_option, given, IsGiven, Say, Asks}
use Rattle.cli_words.specs.Request.{Request, Said}
use Rattle.cli_words.specs.declared.table.Command.{Command}
use Rattle.cli_words.specs.declared.table.Command.TheVariants.{Deal}
use Rattle.cli_words.specs.declared.table.OptionName.{OptionName}
use Rattle.cli_words.specs.declared.table.Offer.{Offer}
use Rattle.cli_words.proofs.Reading.{one_request, asks_of_its_command}
use Rattle.text_lines.specs.Text.{Text}
use Rattle.motion_cli.specs.Words.{command_offered, AreRun, AsksFor, NamesCommand, StoresNothing}

abbrev names : Command → Command × List OptionName → Bool
names command offer = is_command offer.0 command

abbrev takes : Command → OptionName → Command × List OptionName → Bool
takes command o offer = is_command offer.0 command && list_any (is_same o) offer.1

offered_by : (offers : List Offer) (command : Command) → is_offered offers command ≡ list_any (names command) (map command_offered offers)
offered_by [] command = refl
offered_by (offer ∷ offers) command = ap (λ (b : Bool). is_command offer.command command || b) (offered_by offers command)

run_by : (offers : List Offer) (command : Command) (o : OptionName) →
    is_run_with offers command o ≡ list_any (takes command o) (map command_offered offers)
run_by [] command o = refl
run_by (offer ∷ offers) command o =
    ap (λ (b : Bool). (is_command offer.command command && list_any (is_same o) offer.options.now) || b) (run_by offers command o)

same_offered : (xs ys : List Offer) (command : Command) → AreRun xs → AreRun ys → is_offered xs command ≡ is_offered ys command
same_offered xs ys command x y =
    offered_by xs command ∙ (ap (list_any (names command)) (x ∙ sym y) ∙ sym (offered_by ys command))

same_taken : (xs ys : List Offer) (command : Command) (o : OptionName) → AreRun xs → AreRun ys →
    takes_option xs command o ≡ takes_option ys command o
same_taken xs ys command o x y =
    let same = run_by xs command o ∙ (ap (list_any (takes command o)) (x ∙ sym y) ∙ sym (run_by ys command o)) in
    ap (λ (b : Bool). list_any (is_same o) (row command).options && b) same

-- what words ask for hangs on what is run alone
say_over : (xs ys : List Offer) (command : Command) (words : List Text) (said : Said) → AreRun xs → AreRun ys → Say xs command words said →
    Say ys command words said
say_over xs ys command words said x y say = record {
  offered = sym (same_offered xs ys command x y) ∙ say.offered;
  pieces = say.pieces;
  spelt = say.spelt;
  positional = say.positional;
  options = λ o.
      let P : Bool → Type 0 = λ b. IsGiven b (option_row o).kind (given o say.pieces) (said.option o) in
      subst P (same_taken xs ys command o x y) (say.options o);
}

asks_over : (xs ys : List Offer) (words : List Text) (r : Request) → AreRun xs → AreRun ys → Asks xs words r → Asks ys words r
asks_over xs ys words r x y asks = record {
  command = asks.command;
  rest = asks.rest;
  said = asks.said;
  named = asks.named;
  say = say_over xs ys asks.command asks.rest asks.said x y asks.say;
  asked = asks.asked;
}

pub asked_once : (words : List Text) (r s : Request) → AsksFor words r → AsksFor words s → r ≡ s
asked_once words r s a b = one_request b.0 words r s (asks_over a.0 b.0 words r a.1 b.1 a.2) b.2

-- nothing else is asked for where one list of offers asks for nothing else
pub none_asked : (offers : List Offer) (words : List Text) → AreRun offers → ((r : Request) → ¬ (Asks offers words r)) →
    (r : Request) → ¬ (AsksFor words r)
none_asked offers words run none r asks = none r (asks_over asks.0 offers words r asks.1 run asks.2)

-- words that ask for something begin with the name of a command
pub asked_is_named : (words : List Text) (r : Request) → AsksFor words r → NamesCommand words
asked_is_named words r asks = (asks.0, asks.1, (asks.2.command, asks.2.rest, asks.2.named, asks.2.say.offered))

-- the words behind the name of a command other than `deal` ask for nothing that is stored
pub stores_nothing : (offers : List Offer) (command : Command) (words : List Text) (r : Request) → command ≢ Deal →
    Asks offers ((row command).text ∷ words) r → StoresNothing r
stores_nothing offers command words r other asks = λ e. other (sym (asks_of_its_command offers command words r asks) ∙ e)
