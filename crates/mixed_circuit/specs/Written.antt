-- The canonical text of a circuit: single spaces, decimal numbers, no blank line, no comment, and a line end behind every
-- line.
use Rattle.std.specs.Prelude.{ℕ, List, [], ◌∷◌, ◌++◌, drop, flat_map, Option, Some, None, codes}
use Rattle.std.specs.List.{join_with_byte}
use Rattle.std.specs.Option.{unwrap_or}
use Rattle.std.specs.Fmt.{decimal}
use Rattle.share_types.specs.declared.sharing.Sharing.{Sharing}
use Rattle.share_types.specs.declared.sharing.Sharing.TheVariants.{A, B, Y}
use Rattle.mixed_language.specs.declared.language.Slot.{Slot}
use Rattle.mixed_language.specs.declared.language.Slot.TheVariants as slot
use Rattle.mixed_language.specs.Language.{word_of, slots_of}
use Rattle.mixed_language.specs.Circuit.{Circuit, Statement, Shape}
use Rattle.mixed_language.specs.Table.{name_at}
use Rattle.text_lines.specs.Text.{Text}

-- the letter of a sharing
abbrev pub letter_word : Option Sharing → Text
letter_word (Some A) = codes "A"
letter_word (Some B) = codes "B"
letter_word (Some Y) = codes "Y"
letter_word None = []

-- the word for who is told: a party, or all
abbrev pub told_word : Option ℕ → Text
told_word None = codes "all"
told_word (Some party) = decimal party

-- the name of the first operand that is left, if one is
abbrev pub operand_word : List Statement → List ℕ → Text
operand_word all [] = []
operand_word all (x ∷ more) = name_at all x

-- the word in a slot of a statement's line, from the statement's name and shape and the places of the operands that are
-- left
abbrev pub slot_word : List Statement → Text → Shape → List ℕ → Slot → Text
slot_word all name shape places slot.Name = name
slot_word all name shape places slot.Equals = codes "="
slot_word all name shape places slot.Keyword = word_of shape.operation
slot_word all name shape places slot.Owner = decimal (unwrap_or shape.party 0)
slot_word all name shape places slot.Letter = letter_word shape.sharing
slot_word all name shape places slot.Width = decimal shape.width
slot_word all name shape places slot.Place = decimal shape.place
slot_word all name shape places slot.Constant = decimal shape.constant
slot_word all name shape places slot.Operand = operand_word all places
slot_word all name shape places slot.Told = told_word shape.party

-- the operands that are left behind a slot
abbrev pub places_behind : Slot → List ℕ → List ℕ
places_behind slot.Operand places = drop 1 places
places_behind _ places = places

-- the words in slots of a statement's line
abbrev pub slot_words : List Statement → Text → Shape → List ℕ → List Slot → List Text
slot_words all name shape places [] = []
slot_words all name shape places (sl ∷ slots) = slot_word all name shape places sl ∷ slot_words all name shape (places_behind sl places) slots

-- the words of a statement's line
abbrev pub statement_words : List Statement → Statement → List Text
statement_words all s = slot_words all s.name s.shape s.shape.operands (slots_of s.shape.operation)

-- words as a line: with a space between each two, and a line end behind them
abbrev pub line_of : List Text → Text
line_of words = join_with_byte 32 words ++ 10 ∷ []

-- the two header lines
unfoldable pub headers : ℕ → Text
headers parties = line_of (codes "mixed" ∷ codes "1" ∷ []) ++ line_of (codes "parties" ∷ decimal parties ∷ [])

-- the canonical text of a circuit
unfoldable pub canonical : Circuit → Text
canonical c = headers c.parties ++ flat_map (λ s. line_of (statement_words c.statements s)) c.statements
