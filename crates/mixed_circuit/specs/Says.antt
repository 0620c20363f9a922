-- What a line says, as one fact for each part of it, in no order.
use Rattle.std.specs.Prelude.{ℕ, ◌≡◌, ◌<◌, ◌^◌, true, List, length, slice_get, Some, None, Ok, IfSome, ◌↔◌}
use Rattle.share_types.specs.declared.sharing.Sharing.{Sharing}
use Rattle.mixed_language.specs.declared.operand.Operand.{Operand}
use Rattle.mixed_language.specs.Language.{operations, slots_of, domain_of, widths_of}
use Rattle.mot_base.specs.Limits.{most_statements}
use Rattle.mixed_language.specs.Circuit.{Circuit, Statement, place_of}
use Rattle.mixed_circuit.specs.Line.{Parts, no_parts, are_spelled, with_words, operands_of, sharing_given, width_given, statement_of, said}
use Rattle.text_lines.specs.Text.{Text}

-- a line says a statement behind the statements of a circuit
pub record Says (c : Circuit) (words : List Text) (s : Statement) : Type 0 where
  pub parts : Parts
  pub operands : List Operand
  pub sharing : Sharing
  pub width : ℕ
  pub row : ℕ
  -- the line is spelled as an operation of the language wants
  pub listed : slice_get operations row ≡ Some parts.operation
  pub spelled : are_spelled parts.operation words ≡ true
  -- each number is one, within its bounds
  pub stated : with_words (no_parts parts.operation) (slots_of parts.operation) words ≡ Some parts
  pub fits : parts.constant < 2 ^ parts.width
  -- a party is one of the circuit's, the name is new, and the operands are earlier values
  pub party : IfSome parts.party (λ party. party < c.parties)
  pub new : IfSome parts.name (λ name. place_of c.statements name ≡ None)
  pub found : operands_of c.statements parts.operands ≡ Some operands
  -- sharings and widths agree, and there is room
  pub shared : sharing_given (domain_of parts.operation) parts.letter operands ≡ Some sharing
  pub wide : width_given (widths_of parts.operation) parts operands ≡ Some width
  pub room : length c.statements < most_statements
  pub is : s ≡ statement_of parts operands sharing width

-- what is read of a line is what it says
abbrev pub ReadsWhatIsSaid : Type 0
ReadsWhatIsSaid = (c : Circuit) (words : List Text) (s : Statement) → (said c words ≡ Ok s) ↔ Says c words s
