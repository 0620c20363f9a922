-- What words ask for, by the grammar of all commands over those commands and options that this program runs.
use Rattle.std.specs.Prelude.{◌≡◌, ◌≢◌, List, [], ◌∷◌, map}
use Rattle.cli_words.specs.Table.{row}
use Rattle.cli_words.specs.Grammar.{Asks, IsNamed}
use Rattle.cli_words.specs.Request.{Request, command_of}
use Rattle.cli_words.specs.declared.table.Command.{Command}
use Rattle.cli_words.specs.declared.table.Command.TheVariants.{Plain, Needs, Deal, Local}
use Rattle.cli_words.specs.declared.table.OptionName.{OptionName}
use Rattle.cli_words.specs.declared.table.OptionName.TheVariants.{As, Parties, Dealer, Workers}
use Rattle.cli_words.specs.declared.table.Offer.{Offer}
use Rattle.text_lines.specs.Text.{Text}

-- the commands that are run, each with those of its options that are
abbrev pub run_commands : List (Command × List OptionName)
run_commands =
    (Plain, As ∷ Parties ∷ []) ∷ (Needs, As ∷ Parties ∷ []) ∷ (Deal, [])
    ∷ (Local, As ∷ Parties ∷ Dealer ∷ Workers ∷ []) ∷ []

abbrev pub command_offered : Offer → Command × List OptionName
command_offered offer = (offer.command, offer.options.now)

-- these are offered to the reader of words
abbrev pub AreRun : List Offer → Type 0
AreRun offers = map command_offered offers ≡ run_commands

-- the words after the program's name ask for this
abbrev pub AsksFor : List Text → Request → Type 0
AsksFor words request = (offers : List Offer) × AreRun offers × Asks offers words request

-- the words after the name of a command ask for this, which is a request of that command
abbrev pub AsksBehind : Command → List Text → Request → Type 0
AsksBehind command words request = AsksFor ((row command).text ∷ words) request

-- the words after the program's name begin with the name of a command that is run
abbrev pub NamesCommand : List Text → Type 0
NamesCommand words = (offers : List Offer) × AreRun offers × IsNamed offers words

-- the command of the request stores no file: all do so but `deal`
abbrev pub StoresNothing : Request → Type 0
StoresNothing request = command_of request ≢ Deal
