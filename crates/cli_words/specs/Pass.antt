-- What the steps of the reading compute, as functions; the grammar is in `Grammar`.
use Rattle.std.specs.Prelude.{◌≡◌, ◌==◌, ◌&&◌, Bool, true, false, not, if◌then◌else◌, List, [], ◌∷◌, length, slice_get, codes, bytes_eq, Option, Some, None, option_map, option_and_then, map}
use Rattle.std.specs.List.{list_all}
use Rattle.std.specs.Str.{byte}
use Rattle.std.specs.Option.{option_or}
use Rattle.std.specs.Borrow.{Bor}
use Rattle.text_lines.specs.Text.{Text, is_empty}
use Rattle.cli_words.specs.Table.{Meaning, row, option_row, options, kinds, flag, meaning_of}
use Rattle.cli_words.specs.Request.{Said}
use Rattle.cli_words.specs.Grammar.{Piece, option, word, words_of, given, is_offered, takes_option, meanings}
use Rattle.cli_words.specs.declared.table.Command.{Command}
use Rattle.cli_words.specs.declared.table.Kind.{Kind}
use Rattle.cli_words.specs.declared.table.OptionName.{OptionName}
use Rattle.cli_words.specs.declared.table.Offer.{Offer}
use Rattle.cli_words.specs.declared.pass.State.{State}
use Rattle.cli_words.specs.declared.pass.State.TheVariants.{Between, Awaiting, Behind}
use Rattle.cli_words.specs.declared.pass.Piece as declared
use Rattle.cli_words.specs.declared.pass.Spelt.{Spelt}
use Rattle.cli_words.specs.declared.pass.Spelt.TheVariants.{Flag, Joined}
use Rattle.cli_words.specs.declared.pass.Stepped.{Stepped}
use Rattle.cli_words.specs.declared.pass.Piece.TheVariants as pieces

-- what references refer to
abbrev pub referents : {X : Type 0} → List (Bor X) → List X
referents = map (λ x. x.now)

-- The pass over the words, one by one.

abbrev pub is_plain : Text → Bool
is_plain [] = false
is_plain (first ∷ []) = true
is_plain (first ∷ second ∷ rest) = not (first == byte "-")

-- what follows a beginning of the word
abbrev pub rest_after : Text → Text → Option Text
rest_after [] w = Some w
rest_after (c ∷ cs) [] = None
rest_after (c ∷ cs) (d ∷ ds) = if d == c then rest_after cs ds else None

-- a word that begins as an option is the option alone, or has a value behind `=`
abbrev pub rest_spelling : Text → Option (Option Text)
rest_spelling [] = Some None
rest_spelling (c ∷ []) = None
rest_spelling (c ∷ v ∷ vs) = if c == byte "=" then Some (Some (v ∷ vs)) else None

abbrev pub spelling : OptionName → Text → Option (Option Text)
spelling o w = option_and_then rest_spelling (rest_after (flag o) w)

-- the piece that a word ends, and where the pass stands then
pub record Next : Type 0 where
  pub piece : Option Piece
  pub state : State

abbrev pub after_spelling : OptionName → Option Text → Next
after_spelling o None = record { piece = None; state = Awaiting o }
after_spelling o (Some v) = record { piece = Some (option o v); state = Between }

abbrev pub option_step : OptionName → Text → Option Next
option_step o w = option_map (after_spelling o) (spelling o w)

-- what a word comes to that spells one of these options
abbrev pub options_step : List OptionName → Text → Option Next
options_step [] w = None
options_step (o ∷ os) w = option_or (option_step o w) (options_step os w)

abbrev pub first_step : Text → Option Next
first_step w =
    if is_plain w then Some (record { piece = Some (word w); state = Between })
    else if bytes_eq w (codes "--") then Some (record { piece = None; state = Behind })
    else options_step options w

abbrev pub step : State → Text → Option Next
step Between w = first_step w
step (Awaiting o) w =
    if is_plain w then Some (record { piece = Some (option o w); state = Between }) else None
step Behind w = if is_empty w then None else Some (record { piece = Some (word w); state = Behind })

abbrev pub begun : Option Piece → List Piece → List Piece
begun None pieces = pieces
begun (Some piece) pieces = piece ∷ pieces

abbrev pub at_end : State → Option (List Piece)
at_end Between = Some []
at_end (Awaiting o) = None
at_end Behind = Some []

-- the pieces that the words spell, from where the pass stands
unfoldable pub cut : State → List Text → Option (List Piece)
cut state [] = at_end state
cut state (w ∷ words) =
    option_and_then (λ next. option_map (begun next.piece) (cut next.state words)) (step state w)

-- Whether a command takes the pieces.

-- an option is not there, or is there once, where it is taken
abbrev pub is_allowed : Bool → List Text → Bool
is_allowed takes [] = true
is_allowed takes (v ∷ []) = takes
is_allowed takes (v ∷ w ∷ rest) = false

abbrev pub are_allowed : List Offer → Command → List Piece → Bool
are_allowed offers command pieces =
    list_all (λ o. is_allowed (takes_option offers command o) (given o pieces)) options

abbrev pub is_taken : List Offer → Command → List Piece → Bool
is_taken offers command pieces =
    are_allowed offers command pieces && length (words_of pieces) == length (row command).words

-- the value that is given to an option
abbrev pub value_given : OptionName → List Piece → Option Text
value_given o pieces = slice_get (given o pieces) 0

-- the words after the name of a command that is run spell these pieces, and the command takes them
pub record IsLine (offers : List Offer) (command : Command) (words : List Text) (pieces : List Piece) : Type 0 where
  pub offered : is_offered offers command ≡ true
  pub spelt : cut Between words ≡ Some pieces
  pub taken : is_taken offers command pieces ≡ true

-- What pieces say.

-- an option is not there, or is there with a value of its kind
abbrev pub said_by : Kind → Option Text → Option (Option Meaning)
said_by kind None = Some None
said_by kind (Some text) = option_map (λ m. Some m) (meaning_of kind text)

pub record Means (command : Command) (pieces : List Piece) (said : Said) : Type 0 where
  pub words : meanings (kinds command) (words_of pieces) ≡ Some said.words
  pub options : (o : OptionName) → said_by (option_row o).kind (value_given o pieces) ≡ Some (said.option o)

-- What the code keeps of a line.

abbrev pub piece_of : declared.Piece → Piece
piece_of (pieces.Option o value) = option o value.now
piece_of (pieces.Word w) = word w.now

abbrev pub pieces_of : List declared.Piece → List Piece
pieces_of = map piece_of

abbrev pub spelling_of : Spelt → Option Text
spelling_of Flag = None
spelling_of (Joined value) = Some value.now

abbrev pub next_of : Stepped → Next
next_of out = record { piece = option_map piece_of out.piece; state = out.state }
