-- What holds of the grammar.
use Rattle.std.specs.Prelude.{◌≡◌, ◌⊎◌, false, List, None}
use Rattle.text_lines.specs.Text.{Text}
use Rattle.cli_words.specs.Request.{Request, Said, command_of}
use Rattle.cli_words.specs.Grammar.{Asks, AsksAs, Say, takes_option}
use Rattle.cli_words.specs.declared.table.Command.{Command}
use Rattle.cli_words.specs.declared.table.Offer.{Offer}
use Rattle.cli_words.specs.declared.table.OptionName.{OptionName}

-- words ask for one request at most
abbrev pub AsksForOne : Type 0
AsksForOne = (offers : List Offer) (words : List Text) (a b : Request) →
    Asks offers words a → Asks offers words b → a ≡ b

-- words ask for something or they do not
abbrev pub IsReadOrRefused : Type 0
IsReadOrRefused = (offers : List Offer) (words : List Text) →
    ((request : Request) × Asks offers words request) ⊎ ((request : Request) → ¬ (Asks offers words request))

-- the words behind the name of a command ask for a request of it
abbrev pub AsksOfItsCommand : Type 0
AsksOfItsCommand = (offers : List Offer) (command : Command) (words : List Text) (request : Request) →
    AsksAs offers command words request → command_of request ≡ command

-- an option that is not run with the command says nothing
abbrev pub IsAbsentUnlessRun : Type 0
IsAbsentUnlessRun = (offers : List Offer) (command : Command) (words : List Text) (said : Said) (o : OptionName) →
    Say offers command words said → takes_option offers command o ≡ false → said.option o ≡ None
