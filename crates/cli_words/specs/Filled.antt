-- What the code keeps of what a line says, and how it reads that of the values that `clap` found.
use Rattle.std.specs.Prelude.{◌≡◌, true, false, List, [], ◌∷◌, map, Option, Some, None, option_map, option_and_then, if◌then◌else◌}
use Rattle.std.specs.List.{list_any}
use Rattle.text_lines.specs.Text.{Text}
use Rattle.cli_words.specs.Table.{Meaning, name, seed, sharing, parties, workers, number, option_row, option_name, meaning_of, is_same}
use Rattle.cli_words.specs.Request.{Said}
use Rattle.cli_words.specs.Pass.{said_by}
use Rattle.cli_words.specs.declared.table.Kind.{Kind}
use Rattle.cli_words.specs.declared.table.OptionName.{OptionName}
use Rattle.cli_words.specs.declared.fill.Value.{Value}
use Rattle.cli_words.specs.declared.fill.Value.TheVariants as value
use Rattle.cli_words.specs.declared.fill.Chosen.{Chosen}
use Rattle.cli_words.specs.declared.fill.Filled.{Filled}

abbrev pub meaning_in : Value → Meaning
meaning_in (value.Name text) = name text.now
meaning_in (value.Seed s) = seed s.0
meaning_in (value.Sharing way) = sharing way.sharing
meaning_in (value.Parties n) = parties n.count
meaning_in (value.Workers n) = workers n.count
meaning_in (value.Number n) = number n

-- what an option of these says
abbrev pub chosen : List Chosen → OptionName → Option Meaning
chosen [] o = None
chosen (c ∷ cs) o = if is_same o c.option then Some (meaning_in c.value) else chosen cs o

-- an option with its value, where it is there
abbrev pub kept : OptionName → Option Value → List Chosen
kept o None = []
kept o (Some v) = record { option = o; value = v } ∷ []

abbrev pub said_in : Filled → Said
said_in filled = record { words = map meaning_in filled.words.items; option = chosen filled.options.items }

-- the words of a row, each of its kind, by the value that is found for what it is called
abbrev pub words_found : (Text → Option Text) → List (Text × Kind) → Option (List Meaning)
words_found found [] = Some []
words_found found (w ∷ ws) =
    option_and_then (λ m. option_map (λ ms. m ∷ ms) (words_found found ws))
    (option_and_then (meaning_of w.1) (found w.0))

-- a value that is not empty
abbrev pub nonempty : Option Text → Option Text
nonempty (Some (c ∷ cs)) = Some (c ∷ cs)
nonempty (Some []) = None
nonempty None = None

-- an option, by the value that is found for its name
abbrev pub option_found : (Text → Option Text) → OptionName → Option (Option Meaning)
option_found found o = said_by (option_row o).kind (nonempty (found (option_name o)))

-- these options say what is found for them, and no others are there
pub record AreFound (found : Text → Option Text) (os : List OptionName) (said : OptionName → Option Meaning) :
    Type 0 where
  pub there : (o : OptionName) → list_any (is_same o) os ≡ true → option_found found o ≡ Some (said o)
  pub others : (o : OptionName) → list_any (is_same o) os ≡ false → said o ≡ None

-- what is found for one of these options is not of its kind
abbrev pub IsOneWrong : (Text → Option Text) → List OptionName → Type 0
IsOneWrong found os =
    (o : OptionName) × (list_any (is_same o) os ≡ true) × (option_found found o ≡ None)
