-- The `clap` command of each row of the table, and the canonical list of words that it is given.
use Rattle.std.specs.Prelude.{◌≡◌, ◌≢◌, true, false, List, [], ◌∷◌, ◌++◌, length, codes, Option, Some, None}
use Rattle.std.specs.List.{list_any}
use Rattle.clap.specs.Words.{App, Rule, new_app, new_rule, with_rule}
use Rattle.text_lines.specs.Text.{Text}
use Rattle.cli_words.specs.Table.{row, ids, flag, option_name, is_same}
use Rattle.cli_words.specs.Grammar.{Piece, words_of}
use Rattle.cli_words.specs.Pass.{value_given}
use Rattle.cli_words.specs.declared.table.Command.{Command}
use Rattle.cli_words.specs.declared.table.OptionName.{OptionName}

abbrev pub bare_app : App
bare_app = let app = new_app (codes "motion") in record app {
  top = record app.top { no_binary_name = true; disable_help_flag = true; disable_version_flag = true };
}

abbrev pub option_rule : Text → Rule
option_rule name = record (new_rule name) { long = Some name }

abbrev pub word_rule : Text → Rule
word_rule id = record (new_rule id) { required = true }

abbrev pub with_options : App → List OptionName → App
with_options app [] = app
with_options app (o ∷ options) = with_options (with_rule app (option_rule (option_name o))) options

abbrev pub with_words : App → List Text → App
with_words app [] = app
with_words app (id ∷ rest) = with_words (with_rule app (word_rule id)) rest

-- the command of a row: its options, then its words
abbrev pub app_for : Command → App
app_for command = with_words (with_options bare_app (row command).options) (ids command)

-- a value, and the empty text where there is none
abbrev pub or_empty : Option Text → Text
or_empty None = []
or_empty (Some value) = value

-- An option as `--name=value`. One that is not there has the empty value, which no line gives, so that the list of
-- a command has one form.
abbrev pub option_word : OptionName → Option Text → Text
option_word o value = flag o ++ (codes "=" ++ or_empty value)

abbrev pub option_words : List OptionName → List Piece → List Text
option_words [] pieces = []
option_words (o ∷ os) pieces = option_word o (value_given o pieces) ∷ option_words os pieces

-- each option of the row, `--`, and the positional words
abbrev pub canonical : Command → List Piece → List Text
canonical command pieces = option_words (row command).options pieces ++ (codes "--" ∷ words_of pieces)

-- the pieces have the words of the command's row and no options but its, and no value is empty
pub record Fits (command : Command) (pieces : List Piece) : Type 0 where
  pub words : length (words_of pieces) ≡ length (row command).words
  pub options : (o : OptionName) → list_any (is_same o) (row command).options ≡ false → value_given o pieces ≡ None
  pub some : (o : OptionName) (value : Text) → value_given o pieces ≡ Some value → value ≢ []
