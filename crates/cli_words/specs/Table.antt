-- The table of the commands: the words that each takes, and its options; and the table of the options.
use Rattle.std.specs.Prelude.{ℕ, ◌-◌, ◌==◌, ◌&&◌, nat_le, Bool, if◌then◌else◌, List, [], ◌∷◌, ◌++◌, length, map, codes, bytes_eq, Option, Some, None, option_map, find}
use Rattle.std.specs.Borrow.{Bor}
use Rattle.std.specs.Result.{result_ok}
use Rattle.std.specs.Str.Parse.{digits_value}
use Rattle.hex.specs.Hex.{decode_of}
use Rattle.mot_base.specs.Limits.{least_parties, most_parties, most_workers, dealt_records}
use Rattle.share_types.specs.declared.sharing.Sharing.{Sharing}
use Rattle.share_types.specs.declared.sharing.Sharing.TheVariants.{B, Y}
use Rattle.text_lines.specs.Text.{Text}
use Rattle.text_lines.specs.Word.{are_digits}
use Rattle.cli_words.specs.declared.table.Command.{Command}
use Rattle.cli_words.specs.declared.table.Command.TheVariants.{Plain, Needs, Deal, Local}
use Rattle.cli_words.specs.declared.table.OptionName.{OptionName}
use Rattle.cli_words.specs.declared.table.OptionName.TheVariants.{As, Parties, Dealer, Workers}
use Rattle.cli_words.specs.declared.table.Kind.{Kind}
use Rattle.cli_words.specs.declared.table.Kind.TheVariants as kind
use Rattle.cli_words.specs.declared.table.Row as declared

-- how many correlations of one kind are dealt
abbrev pub a_count : Kind
a_count = kind.Number 0 (dealt_records - 1)

-- a command's name; the words that it takes, in order, each with what it is called and what it has to be; and its
-- options, in the order in which they are listed
pub record Row : Type 0 where
  pub text : Text
  pub words : List (Text × Kind)
  pub options : List OptionName

abbrev pub row : Command → Row
row Plain = record {
  text = codes "plain";
  words = (codes "CIRCUIT", kind.Name) ∷ (codes "VALUES", kind.Name) ∷ [];
  options = As ∷ Parties ∷ [];
}
row Needs = record {
  text = codes "needs";
  words = (codes "CIRCUIT", kind.Name) ∷ [];
  options = As ∷ Parties ∷ [];
}
row Deal = record {
  text = codes "deal";
  words = (codes "PREFIX", kind.Name) ∷ (codes "SEED", kind.Seed) ∷ (codes "PARTIES", kind.Parties)
      ∷ (codes "MULT", a_count) ∷ (codes "BIT", a_count) ∷ (codes "SHARED", a_count) ∷ (codes "KEY", a_count) ∷ [];
  options = [];
}
row Local = record {
  text = codes "local";
  words = (codes "CIRCUIT", kind.Name) ∷ (codes "VALUES", kind.Name) ∷ (codes "SEED", kind.Seed) ∷ [];
  options = As ∷ Parties ∷ Dealer ∷ Workers ∷ [];
}

-- all commands
abbrev pub commands : List Command
commands = Plain ∷ Needs ∷ Deal ∷ Local ∷ []

-- the command of a name
abbrev pub command_named : Text → Option Command
command_named name = find (λ c. bytes_eq (row c).text name) commands

-- two commands are the same where they have one name
abbrev pub is_command : Command → Command → Bool
is_command a b = bytes_eq (row a).text (row b).text

-- what words are called
abbrev pub called : List (Text × Kind) → List Text
called = map (λ w. w.0)

-- what the words of a command have to be, and what they are called
abbrev pub kinds : Command → List Kind
kinds command = map (λ w. w.1) (row command).words

abbrev pub ids : Command → List Text
ids command = called (row command).words

-- an option's name, and what its value has to be
pub record OptionRow : Type 0 where
  pub name : Text
  pub kind : Kind

abbrev pub option_row : OptionName → OptionRow
option_row As = record { name = codes "as"; kind = kind.Sharing }
option_row Parties = record { name = codes "parties"; kind = kind.Parties }
option_row Dealer = record { name = codes "dealer"; kind = kind.Name }
option_row Workers = record { name = codes "workers"; kind = kind.Workers }

-- all options, in the order in which they are listed
abbrev pub options : List OptionName
options = As ∷ Parties ∷ Dealer ∷ Workers ∷ []

abbrev pub option_name : OptionName → Text
option_name option = (option_row option).name

-- an option as it is spelt
abbrev pub flag : OptionName → Text
flag option = codes "--" ++ option_name option

-- two options are the same where they have one name
abbrev pub is_same : OptionName → OptionName → Bool
is_same a b = bytes_eq (option_name a) (option_name b)

-- What a word says.
pub data Meaning : Type 0 where
  name : Text → Meaning
  seed : List ℕ → Meaning
  sharing : Sharing → Meaning
  parties : ℕ → Meaning
  workers : ℕ → Meaning
  number : ℕ → Meaning

-- the number that one decimal digit or more spell, leading zeros accepted, if it lies between the two
abbrev pub number_between : ℕ → ℕ → Text → Option ℕ
number_between least most text =
    if are_digits 10 text && (nat_le least (digits_value 10 text) && nat_le (digits_value 10 text) most)
    then Some (digits_value 10 text) else None

-- the 32 bytes that 64 hexadecimal digits of either case spell
abbrev pub seed_of : Text → Option (List ℕ)
seed_of text = if length text == 64 then result_ok (decode_of text) else None

-- the wires of a circuit in Bristol Fashion are shared by XOR, or as keys
abbrev pub sharing_of : Text → Option Sharing
sharing_of text =
    if bytes_eq text (codes "B") then Some B else if bytes_eq text (codes "Y") then Some Y else None

-- what a word says as one of this kind, if it is of this kind
abbrev pub meaning_of : Kind → Text → Option Meaning
meaning_of kind.Name text = Some (name text)
meaning_of kind.Seed text = option_map seed (seed_of text)
meaning_of kind.Sharing text = option_map sharing (sharing_of text)
meaning_of kind.Parties text = option_map parties (number_between least_parties most_parties text)
meaning_of kind.Workers text = option_map workers (number_between 1 most_workers text)
meaning_of (kind.Number least most) text = option_map number (number_between least most text)

-- What the code's row of a command says.

abbrev pub row_words : List (Bor Text × Kind) → List (Text × Kind)
row_words = map (λ w. (w.0.now, w.1))

abbrev pub row_of : declared.Row → Row
row_of r = record {
  text = r.name.now;
  words = row_words r.words.now;
  options = r.options.now;
}
