-- Circuits: what each statement is made of, whatever its form.
use Rattle.std.specs.Prelude.{ℕ, ◌+◌, ◌&&◌, List, [], ◌∷◌, ◌++◌, slice_get, Option, Some, None, option_map, option_and_then, is_some, if◌then◌else◌}
use Rattle.std.specs.Str.{bytes_eq}
use Rattle.mot_base.specs.Limits.{most_width}
use Rattle.share_types.specs.declared.sharing.Sharing.{Sharing}
use Rattle.share_types.specs.declared.sharing.Sharing.TheVariants.{A, B, Y}
use Rattle.share_types.specs.declared.sharing.WireType.{WireType}
use Rattle.share_types.specs.Wires.{party_told}
use Rattle.mixed_language.specs.declared.language.Operation.{Operation}
use Rattle.mixed_language.specs.declared.language.Operation.TheVariants.{InputWord, InputBits, ConstWord, ConstBits, Add, Sub, Mul, AddConst, MulConst, Xor, And, Not, Slice, Join, A2Y, A2B, B2Y, Y2B, B2A, Y2A, Output}
use Rattle.mixed_language.specs.declared.form.Form.{Form}
use Rattle.mixed_language.specs.declared.form.Form.TheVariants as form
use Rattle.mot_base.specs.Names.{Name}

-- What a statement does, in one shape for all: the operation, how its value is shared if it has one, the
-- places of its operands, the party whose input it is or that is told, and its numbers. A width that is not
-- stated is 64
pub record Shape : Type 0 where
  pub operation : Operation
  pub sharing : Option Sharing
  pub operands : List ℕ
  pub party : Option ℕ
  pub width : ℕ
  pub place : ℕ
  pub constant : ℕ

-- the shape of an operation on operands whose line states no party and no number
abbrev pub bare : Operation → Option Sharing → List ℕ → Shape
bare operation sharing operands = record {
  operation = operation;
  sharing = sharing;
  operands = operands;
  party = None;
  width = most_width;
  place = 0;
  constant = 0;
}

-- the list of all forms
abbrev pub shape_of : Form → Shape
shape_of (form.InputA party) = record (bare InputWord (Some A) []) { party = Some party.0 }
shape_of (form.InputB party width) =
    record (bare InputBits (Some B) []) { party = Some party.0; width = width }
shape_of (form.InputY party width) =
    record (bare InputBits (Some Y) []) { party = Some party.0; width = width }
shape_of (form.ConstA c) = record (bare ConstWord (Some A) []) { constant = c }
shape_of (form.ConstB c) = record (bare ConstBits (Some B) []) { width = c.width; constant = c.word }
shape_of (form.ConstY c) = record (bare ConstBits (Some Y) []) { width = c.width; constant = c.word }
shape_of (form.AddA x y) = bare Add (Some A) (x ∷ y ∷ [])
shape_of (form.SubA x y) = bare Sub (Some A) (x ∷ y ∷ [])
shape_of (form.MulA x y) = bare Mul (Some A) (x ∷ y ∷ [])
shape_of (form.AddConstA x c) = record (bare AddConst (Some A) (x ∷ [])) { constant = c }
shape_of (form.MulConstA x c) = record (bare MulConst (Some A) (x ∷ [])) { constant = c }
shape_of (form.XorB x y) = bare Xor (Some B) (x ∷ y ∷ [])
shape_of (form.XorY x y) = bare Xor (Some Y) (x ∷ y ∷ [])
shape_of (form.AndB x y) = bare And (Some B) (x ∷ y ∷ [])
shape_of (form.AndY x y) = bare And (Some Y) (x ∷ y ∷ [])
shape_of (form.NotB x) = bare Not (Some B) (x ∷ [])
shape_of (form.NotY x) = bare Not (Some Y) (x ∷ [])
shape_of (form.SliceB x at width) = record (bare Slice (Some B) (x ∷ [])) { width = width; place = at }
shape_of (form.SliceY x at width) = record (bare Slice (Some Y) (x ∷ [])) { width = width; place = at }
shape_of (form.JoinB x y) = bare Join (Some B) (x ∷ y ∷ [])
shape_of (form.JoinY x y) = bare Join (Some Y) (x ∷ y ∷ [])
shape_of (form.A2Y x) = bare A2Y (Some Y) (x ∷ [])
shape_of (form.A2B x) = bare A2B (Some B) (x ∷ [])
shape_of (form.B2Y x) = bare B2Y (Some Y) (x ∷ [])
shape_of (form.Y2B x) = bare Y2B (Some B) (x ∷ [])
shape_of (form.B2A x) = bare B2A (Some A) (x ∷ [])
shape_of (form.Y2A x) = bare Y2A (Some A) (x ∷ [])
shape_of (form.Output x to) = record (bare Output None (x ∷ [])) { party = party_told to }

-- a statement: the name of its value, how that is shared, and what it does. An output has no value, and the
-- empty name
pub record Statement : Type 0 where
  pub name : Name
  pub wire : Option WireType
  pub shape : Shape

pub record Circuit : Type 0 where
  pub parties : ℕ
  pub statements : List Statement

-- how the value of the statement at a place is shared, if there is one and it has a value
abbrev pub wire_at : List Statement → ℕ → Option WireType
wire_at statements at = option_and_then (λ s. s.wire) (slice_get statements at)

-- the place of the first value that has a name
abbrev pub place_of : List Statement → Name → Option ℕ
place_of [] name = None
place_of (s ∷ more) name =
    if is_some s.wire && bytes_eq s.name name
    then Some 0
    else option_map (λ at. at + 1) (place_of more name)

-- the circuit of no statement
abbrev pub no_statements : ℕ → Circuit
no_statements parties = record { parties = parties; statements = [] }

-- the circuit with one statement more
abbrev pub with_statement : Circuit → Statement → Circuit
with_statement c s = record c { statements = c.statements ++ s ∷ [] }
