-- The language of values: which texts read as the bits of a table's inputs, and which line of any other
-- text shows the first fault.
use Rattle.std.specs.Prelude.{ℕ, ◌+◌, ◌^◌, Bool, ◌&&◌, ◌||◌, nat_lt, List, [], ◌∷◌, length, replicate, drop, slice_get, slice_set, Option, Some, None, Result, Ok, option_map, option_and_then, is_none, if◌then◌else◌, codes}
use Rattle.std.specs.List.{list_all}
use Rattle.std.specs.Option.{unwrap_or}
use Rattle.std.specs.Str.{bytes_eq}
use Rattle.std.specs.Str.Parse.{digits_value}
use Rattle.mot_base.specs.declared.Party.{Party}
use Rattle.share_types.specs.Bits.{bits}
use Rattle.circuit_values.specs.declared.cause.ValuesCause.{ValuesCause}
use Rattle.circuit_values.specs.declared.cause.ValuesCause.TheVariants.{NameUnknown, Missing, Twice, TooWide, Word}
use Rattle.circuit_tables.specs.Table.{Input}
use Rattle.circuit_tables.specs.Values.{is_owned}
use Rattle.text_lines.specs.Text.{Text, is_allowed, line_words}
use Rattle.text_lines.specs.Word.{are_digits, begins_hexadecimal}
use Rattle.text_lines.specs.Chain.{◌>>=◌, or_cause, unless}
use Rattle.text_lines.specs.LineReader.{LineReader, ReadsAs, FirstFaultOf, ReadsOrFaults}
use Rattle.text_lines.specs.declared.cause.TextError.{TextError}
use Rattle.text_lines.specs.Gives.{IsFirstFaultOf}

-- ---- literals

-- one decimal digit or more, or `0x` and one hexadecimal digit or more
abbrev pub is_literal : Text → Bool
is_literal word = if begins_hexadecimal word then are_digits 16 (drop 2 word) else are_digits 10 word

-- the number that a literal spells
abbrev pub literal_number : Text → ℕ
literal_number word = if begins_hexadecimal word then digits_value 16 (drop 2 word) else digits_value 10 word

-- whether a literal's number has no bit at or above a width. A decimal one is below 2^64 too
abbrev pub literal_fits : Text → ℕ → Bool
literal_fits word width =
    (begins_hexadecimal word || nat_lt (literal_number word) (2 ^ 64))
    && nat_lt (literal_number word) (2 ^ width)

-- ---- one line

-- inputs, of which those of an owner are asked for, or all where there is none
pub record Question : Type 0 where
  pub inputs : List Input
  pub owner : Option Party

-- a name and a literal
pub record Assignment : Type 0 where
  pub name : Text
  pub literal : Text

-- what words assign, where they are a name, `=` and a literal
abbrev pub assignment_of : List Text → Option Assignment
assignment_of (name ∷ sign ∷ literal ∷ []) =
    if bytes_eq sign (codes "=") && is_literal literal
    then Some (record { name = name; literal = literal })
    else None
assignment_of _ = None

-- the place of the first input that is asked for and has a name
abbrev pub place_asked : Option Party → List Input → Text → Option ℕ
place_asked owner [] name = None
place_asked owner (x ∷ more) name =
    if is_owned owner x.party && bytes_eq x.name name
    then Some 0
    else option_map (λ at. at + 1) (place_asked owner more name)

-- whether the input at a place has no bits yet
abbrev pub is_free : List (Option (List Bool)) → ℕ → Bool
is_free given at = is_none (option_and_then (λ o. o) (slice_get given at))

-- how many bits the value of the input at a place has
abbrev pub width_at : List Input → ℕ → ℕ
width_at inputs at = unwrap_or (option_map (λ x. x.width) (slice_get inputs at)) 0

-- the bits that inputs have behind what some words assign, or the first cause that the words show
unfoldable pub behind_words : List Input → Option Party → List (Option (List Bool)) → List Text →
    Result (List (Option (List Bool))) ValuesCause
behind_words inputs owner given words = do
  a ← or_cause Word (assignment_of words)
  at ← or_cause NameUnknown (place_asked owner inputs a.name)
  free ← unless Twice (is_free given at)
  fits ← unless TooWide (literal_fits a.literal (width_at inputs at))
  Ok (slice_set given at (Some (bits (width_at inputs at) (literal_number a.literal))))

-- a line of no words is passed over
abbrev pub behind_content : List Input → Option Party → List (Option (List Bool)) → List Text →
    Result (List (Option (List Bool))) ValuesCause
behind_content inputs owner given [] = Ok given
behind_content inputs owner given (word ∷ words) = behind_words inputs owner given (word ∷ words)

-- the bits that inputs have behind a line, or the first cause that the line shows
unfoldable pub behind : List Input → Option Party → List (Option (List Bool)) → Text →
    Result (List (Option (List Bool))) ValuesCause
behind inputs owner given line = do
  text ← unless Word (list_all is_allowed line)
  behind_content inputs owner given (line_words line)

-- ---- the text

-- the value of an input: the bits that it was given. Without any, an input that is asked for has no value,
-- and any other input the empty list
abbrev pub value_of : Option Party → Input → Option (List Bool) → Option (List Bool)
value_of owner x (Some given) = Some given
value_of owner x None = if is_owned owner x.party then None else Some []

-- the values of all inputs, if each that is asked for has bits
abbrev pub values_of : Option Party → List Input → List (Option (List Bool)) → Option (List (List Bool))
values_of owner [] given = Some []
values_of owner (x ∷ more) [] = None
values_of owner (x ∷ more) (o ∷ given) =
    option_and_then (λ value. option_map (λ rest. value ∷ rest) (values_of owner more given))
    (value_of owner x o)

-- the language of the values of these inputs, line by line
abbrev pub values : List Input → Option Party →
    LineReader (List (Option (List Bool))) (List (List Bool)) ValuesCause
values inputs owner = record {
  start = replicate (length inputs) None;
  behind = behind inputs owner;
  whole = λ given. or_cause Missing (values_of owner inputs given);
}

-- A text reads as values, one list of bits for each input: no line shows a cause, each assigns its bits to
-- one input, and each input that is asked for has bits. Any other input has none
abbrev pub ReadsValues : List Input → Option Party → Text → List (List Bool) → Type 0
ReadsValues inputs owner text v =
    ReadsAs (List (Option (List Bool))) (List (List Bool)) ValuesCause (values inputs owner) text v

-- the first line of a text that shows a cause, and the first cause of that line
abbrev pub FirstFault : List Input → Option Party → Text → ℕ → ValuesCause → Type 0
FirstFault inputs owner text line cause = FirstFaultOf (values inputs owner) text line cause

-- an error is the first fault of a text, or memory ran out
abbrev pub IsFirstFault : List Input → Option Party → Text → TextError ValuesCause → Type 0
IsFirstFault inputs owner text e = IsFirstFaultOf (values inputs owner) text e

-- of every text exactly one is the case: it reads as one list of values, or one line and cause are its
-- first fault
abbrev pub EachReadsOrFaults : Type 0
EachReadsOrFaults =
    (inputs : List Input) (owner : Option Party) (text : Text) →
    ReadsOrFaults (List (Option (List Bool))) (List (List Bool)) ValuesCause (values inputs owner) text
