-- What one line says behind the statements of the lines before it, or the first cause that it shows.
use Rattle.std.specs.Prelude.{ℕ, ◌≡◌, ◌-◌, ◌^◌, Bool, true, false, ◌&&◌, ◌==◌, nat_lt, nat_le, List, [], ◌∷◌, ◌++◌, length, map, slice_get, Option, Some, None, Result, Ok, option_map, option_and_then, is_none, if◌then◌else◌, codes}
use Rattle.std.specs.List.{list_all, find}
use Rattle.std.specs.Option.{unwrap_or}
use Rattle.std.specs.Str.{bytes_eq}
use Rattle.share_types.specs.declared.sharing.Sharing.{Sharing}
use Rattle.share_types.specs.declared.sharing.Sharing.TheVariants.{A, B, Y}
use Rattle.mixed_language.specs.declared.language.Operation.{Operation}
use Rattle.mixed_language.specs.declared.language.Slot.{Slot}
use Rattle.mixed_language.specs.declared.language.Slot.TheVariants as slot
use Rattle.mixed_language.specs.declared.language.Domain.{Domain}
use Rattle.mixed_language.specs.declared.language.Widths.{Widths}
use Rattle.mixed_circuit.specs.declared.cause.CircuitCause.{CircuitCause}
use Rattle.mixed_circuit.specs.declared.cause.CircuitCause.TheVariants.{Word, BadNumber, BadParty, NameTwice, NameUnknown, WrongSharing, WrongWidth, TooMany}
use Rattle.mixed_language.specs.declared.operand.Operand.{Operand}
use Rattle.mixed_language.specs.Operands.{width_by}
use Rattle.mixed_language.specs.Language.{operations, word_of, slots_of, domain_of, is_in, gives, widths_of}
use Rattle.mot_base.specs.Limits.{most_statements, most_width}
use Rattle.mixed_language.specs.Circuit.{Circuit, Statement, wire_at, place_of}
use Rattle.share_types.specs.Wires.{wire_type, sharing_of, is_shared}
use Rattle.text_lines.specs.Text.{Text}
use Rattle.text_lines.specs.Chain.{◌>>=◌, or_cause, unless}
use Rattle.text_lines.specs.Word.{number_of}
use Rattle.mot_base.specs.Names.{is_name}

-- ---- the words of a line

-- the sharing of a letter
abbrev pub letter_of : Text → Option Sharing
letter_of word =
    if bytes_eq word (codes "A") then Some A
    else if bytes_eq word (codes "B") then Some B
    else if bytes_eq word (codes "Y") then Some Y else None

abbrev pub is_letter_of : Operation → Option Sharing → Bool
is_letter_of operation None = false
is_letter_of operation (Some sharing) = is_in (domain_of operation) sharing

-- a word is spelled as its slot wants. Whether it is a number is no matter of spelling
abbrev pub is_spelled : Operation → Slot → Text → Bool
is_spelled operation slot.Name word = is_name word
is_spelled operation slot.Equals word = bytes_eq word (codes "=")
is_spelled operation slot.Keyword word = bytes_eq word (word_of operation)
is_spelled operation slot.Letter word = is_letter_of operation (letter_of word)
is_spelled operation slot.Operand word = is_name word
is_spelled operation _ word = true

-- each word is spelled as its slot wants
abbrev pub each_spelled : Operation → List Slot → List Text → Bool
each_spelled operation [] words = true
each_spelled operation (s ∷ slots) [] = true
each_spelled operation (s ∷ slots) (word ∷ words) =
    is_spelled operation s word && each_spelled operation slots words

-- words are as many as the slots of an operation, and each is spelled as its slot wants
abbrev pub are_spelled : Operation → List Text → Bool
are_spelled operation words =
    length (slots_of operation) == length words && each_spelled operation (slots_of operation) words

-- the operation of a line
unfoldable pub operation_of : List Text → Option Operation
operation_of words = find (λ operation. are_spelled operation words) operations

-- the order of the operations is no matter: a line that is spelled as one of them wants is a line of that one
abbrev pub OneOperation : Type 0
OneOperation =
    (words : List Text) (i : ℕ) (operation : Operation) →
    slice_get operations i ≡ Some operation → are_spelled operation words ≡ true →
    operation_of words ≡ Some operation

-- what the words of a line state: names, a letter, and numbers
pub record Parts : Type 0 where
  pub operation : Operation
  pub name : Option Text
  pub letter : Option Sharing
  pub operands : List Text
  pub party : Option ℕ
  pub width : ℕ
  pub place : ℕ
  pub constant : ℕ

-- a line that states nothing. A width that is not stated is 64
abbrev pub no_parts : Operation → Parts
no_parts operation = record {
  operation = operation;
  name = None;
  letter = None;
  operands = [];
  party = None;
  width = most_width;
  place = 0;
  constant = 0;
}

-- the number that a word spells, where it is one from the least to the most
abbrev pub number_within : ℕ → ℕ → Text → Option ℕ
number_within least most word =
    option_and_then (λ n. if nat_le least n && nat_le n most then Some n else None) (number_of word)

-- the parts with what a word states in its slot: none where it has to be a number within bounds and is not
unfoldable pub with_word : Parts → Slot → Text → Option Parts
with_word parts slot.Name word = Some (record parts { name = Some word })
with_word parts slot.Equals word = Some parts
with_word parts slot.Keyword word = Some parts
with_word parts slot.Letter word = Some (record parts { letter = letter_of word })
with_word parts slot.Operand word = Some (record parts { operands = parts.operands ++ word ∷ [] })
with_word parts slot.Owner word = option_map (λ n. record parts { party = Some n }) (number_of word)
with_word parts slot.Told word =
    if bytes_eq word (codes "all") then Some parts
    else option_map (λ n. record parts { party = Some n }) (number_of word)
with_word parts slot.Width word =
    option_map (λ n. record parts { width = n }) (number_within 1 most_width word)
with_word parts slot.Place word =
    option_map (λ n. record parts { place = n }) (number_within 0 (most_width - 1) word)
with_word parts slot.Constant word = option_map (λ n. record parts { constant = n }) (number_of word)

-- the parts with what words state in their slots
abbrev pub with_words : Parts → List Slot → List Text → Option Parts
with_words parts [] words = Some parts
with_words parts (s ∷ slots) [] = Some parts
with_words parts (s ∷ slots) (word ∷ words) =
    option_and_then (λ more. with_words more slots words) (with_word parts s word)

-- what the words of a line state: Word where no operation is spelled so, BadNumber where a number is not as
-- it has to be, or a constant does not fit the width
unfoldable pub parts_of : List Text → Result Parts CircuitCause
parts_of words = do
  operation ← or_cause Word (operation_of words)
  parts ← or_cause BadNumber (with_words (no_parts operation) (slots_of operation) words)
  fits ← unless BadNumber (nat_lt parts.constant (2 ^ parts.width))
  Ok parts

-- ---- what the parts mean behind some statements

-- a party, if one is stated, is one of so many
abbrev pub is_party : ℕ → Option ℕ → Bool
is_party parties None = true
is_party parties (Some party) = nat_lt party parties

-- a name, if one is stated, is no earlier value's
abbrev pub is_new : List Statement → Option Text → Bool
is_new statements None = true
is_new statements (Some name) = is_none (place_of statements name)

-- the earlier value that a name is of: its place, and how it is shared
abbrev pub operand_of : List Statement → Text → Option Operand
operand_of statements name =
    option_and_then (λ at. option_map (λ wire. record { at = at; wire = wire }) (wire_at statements at))
    (place_of statements name)

-- the same of each of several names
abbrev pub operands_of : List Statement → List Text → Option (List Operand)
operands_of statements [] = Some []
operands_of statements (name ∷ names) =
    option_and_then (λ first. option_map (λ more. first ∷ more) (operands_of statements names))
    (operand_of statements name)

-- the sharing of a letter, or that of the first operand, if the operation takes it and all operands have it
abbrev pub sharing_given : Domain → Option Sharing → List Operand → Option Sharing
sharing_given domain (Some sharing) operands = Some sharing
sharing_given domain None operands =
    option_and_then
    (λ first.
    if is_in domain (sharing_of first.wire)
    && list_all (λ x. is_shared (sharing_of first.wire) x.wire) operands
    then Some (sharing_of first.wire)
    else None)
    (slice_get operands 0)

-- how wide the value is, if the widths of the operands fit
abbrev pub width_given : Widths → Parts → List Operand → Option ℕ
width_given widths parts operands = width_by widths parts.width parts.place operands

-- the statement of some parts, where its operands were found and their sharings and widths fit. It has a
-- value where it has a name
abbrev pub statement_of : Parts → List Operand → Sharing → ℕ → Statement
statement_of parts operands sharing width = record {
  name = unwrap_or parts.name [];
  wire = option_map (λ name. wire_type (gives parts.operation sharing) width) parts.name;
  shape = record {
    operation = parts.operation;
    sharing = option_map (λ name. gives parts.operation sharing) parts.name;
    operands = map (λ x. x.at) operands;
    party = parts.party;
    width = parts.width;
    place = parts.place;
    constant = parts.constant;
  };
}

-- the statement that the parts of a line mean, or the first cause that they show
unfoldable pub resolved : Circuit → Parts → Result Statement CircuitCause
resolved c parts = do
  party ← unless BadParty (is_party c.parties parts.party)
  name ← unless NameTwice (is_new c.statements parts.name)
  operands ← or_cause NameUnknown (operands_of c.statements parts.operands)
  sharing ← or_cause WrongSharing (sharing_given (domain_of parts.operation) parts.letter operands)
  width ← or_cause WrongWidth (width_given (widths_of parts.operation) parts operands)
  Ok (statement_of parts operands sharing width)

-- the statement that a line says behind the statements of a circuit, or the first cause that it shows
unfoldable pub said : Circuit → List Text → Result Statement CircuitCause
said c words = do
  parts ← parts_of words
  statement ← resolved c parts
  room ← unless TooMany (nat_lt (length c.statements) most_statements)
  Ok statement
