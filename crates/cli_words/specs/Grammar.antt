-- The grammar of a line of words, over the table of the commands.
use Rattle.std.specs.Prelude.{◌≡◌, ◌≢◌, ◌<◌, ◌⊎◌, Bool, true, ◌&&◌, if◌then◌else◌, List, [], ◌∷◌, ◌++◌, length, slice_get, map, codes, Option, Some, None, option_map, option_and_then, String, string_bytes}
use Rattle.std.specs.List.{list_any}
use Rattle.std.specs.Str.{byte}
use Rattle.text_lines.specs.Text.{Text}
use Rattle.cli_words.specs.Table.{Meaning, row, option_row, kinds, flag, meaning_of, is_command, is_same}
use Rattle.cli_words.specs.Request.{Request, Said, request_said}
use Rattle.cli_words.specs.declared.table.Command.{Command}
use Rattle.cli_words.specs.declared.table.Kind.{Kind}
use Rattle.cli_words.specs.declared.table.OptionName.{OptionName}
use Rattle.cli_words.specs.declared.table.Offer.{Offer}

-- the words as texts
abbrev pub texts : {A : Type 0} → List (String A) → List Text
texts words = map string_bytes words

-- the word has more than one byte and begins with `-`
abbrev pub IsDashed : Text → Type 0
IsDashed word = (1 < length word) × (slice_get word 0 ≡ Some (byte "-"))

-- the word is not empty, and is taken neither for an option nor for `--`
abbrev pub IsPlain : Text → Type 0
IsPlain word = (word ≢ []) × ¬ (IsDashed word)

-- What a line is made of: options with their values, and positional words.
pub data Piece : Type 0 where
  option : OptionName → Text → Piece
  word : Text → Piece

-- the words spell the piece: an option is `--name=value` or `--name value`
abbrev pub Spells : Piece → List Text → Type 0
Spells (option o value) words =
    ((value ≢ []) × (words ≡ (flag o ++ (codes "=" ++ value)) ∷ []))
    ⊎ (IsPlain value × (words ≡ flag o ∷ value ∷ []))
Spells (word w) words = IsPlain w × (words ≡ w ∷ [])

-- the words spell the pieces, one after another
abbrev pub SpellAll : List Piece → List Text → Type 0
SpellAll [] words = words ≡ []
SpellAll (piece ∷ pieces) words =
    (front : List Text) × (rest : List Text)
    × (Spells piece front × ((words ≡ front ++ rest) × SpellAll pieces rest))

abbrev pub NoneEmpty : List Text → Type 0
NoneEmpty [] = Unit {0}
NoneEmpty (w ∷ words) = (w ≢ []) × NoneEmpty words

-- the words spell the pieces of a whole line: behind the first `--`, which is dropped, each word that is
-- not empty is a positional one
pub data IsSpelt (words : List Text) (pieces : List Piece) : Type 0 where
  whole : SpellAll pieces words → IsSpelt words pieces
  divided : (front : List Piece) (before behind : List Text) → SpellAll front before → NoneEmpty behind
      → words ≡ before ++ (codes "--" ∷ behind) → pieces ≡ front ++ map word behind → IsSpelt words pieces

-- the positional words, in order
abbrev pub words_of : List Piece → List Text
words_of [] = []
words_of (option o value ∷ pieces) = words_of pieces
words_of (word w ∷ pieces) = w ∷ words_of pieces

-- the values that are given to an option, in order
abbrev pub given : OptionName → List Piece → List Text
given o [] = []
given o (option p value ∷ pieces) = if is_same o p then value ∷ given o pieces else given o pieces
given o (word w ∷ pieces) = given o pieces

-- the command is one of those that are run
abbrev pub is_offered : List Offer → Command → Bool
is_offered offers command = list_any (λ offer. is_command offer.command command) offers

-- the option is one of those that are run with the command
abbrev pub is_run_with : List Offer → Command → OptionName → Bool
is_run_with offers command o =
    list_any (λ offer. is_command offer.command command && list_any (is_same o) offer.options.now) offers

-- the option is in the row of the command, and is run with it
abbrev pub takes_option : List Offer → Command → OptionName → Bool
takes_option offers command o = list_any (is_same o) (row command).options && is_run_with offers command o

-- each word is of its kind, and says this; there are as many words as kinds
abbrev pub meanings : List Kind → List Text → Option (List Meaning)
meanings [] [] = Some []
meanings [] (w ∷ words) = None
meanings (kind ∷ kinds) [] = None
meanings (kind ∷ kinds) (w ∷ words) =
    option_and_then (λ m. option_map (λ ms. m ∷ ms) (meanings kinds words)) (meaning_of kind w)

-- the option is not there, as it has to be, or is there once, where it is taken, and says this
pub data IsGiven (takes : Bool) (kind : Kind) (values : List Text) (meaning : Option Meaning) : Type 0 where
  absent : values ≡ [] → meaning ≡ None → IsGiven takes kind values meaning
  once : (value : Text) (said : Meaning) → values ≡ value ∷ [] → takes ≡ true
      → meaning_of kind value ≡ Some said → meaning ≡ Some said → IsGiven takes kind values meaning

-- With these commands and options, the words after the name of a command that is run say this: they spell its
-- words and options, each of its kind.
pub record Say (offers : List Offer) (command : Command) (words : List Text) (said : Said) : Type 0 where
  pub offered : is_offered offers command ≡ true
  pub pieces : List Piece
  pub spelt : IsSpelt words pieces
  pub positional : meanings (kinds command) (words_of pieces) ≡ Some said.words
  pub options : (o : OptionName) → IsGiven
      (takes_option offers command o) (option_row o).kind (given o pieces) (said.option o)

-- The words after the program's name ask for this: the first names a command that is run, and what the others
-- say makes this request of it.
pub record Asks (offers : List Offer) (words : List Text) (request : Request) : Type 0 where
  pub command : Command
  pub rest : List Text
  pub said : Said
  pub named : words ≡ (row command).text ∷ rest
  pub say : Say offers command rest said
  pub asked : request_said command said ≡ Some request

-- the words after the name of a command ask for this
abbrev pub AsksAs : List Offer → Command → List Text → Request → Type 0
AsksAs offers command words request = Asks offers ((row command).text ∷ words) request

-- the words after the program's name begin with the name of a command that is run
abbrev pub IsNamed : List Offer → List Text → Type 0
IsNamed offers words =
    (command : Command) × (rest : List Text)
    × (words ≡ (row command).text ∷ rest) × (is_offered offers command ≡ true)
