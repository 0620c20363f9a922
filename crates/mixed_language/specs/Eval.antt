-- The plain evaluation of a circuit: one number for each statement, by its place.
use Rattle.std.specs.Prelude.{ℕ, ◌≡◌, ◌+◌, ◌-◌, ◌*◌, ◌/◌, ◌%◌, ◌^◌, Bool, List, [], ◌∷◌, ◌++◌, length, map, take, slice_get, slice_index, Option, Some, None, is_some, option_map, if◌then◌else◌, bit_and, bit_xor}
use Rattle.std.specs.Option.{unwrap_or}
use Rattle.share_types.specs.Bits.{once, number, bits}
use Rattle.mot_base.specs.Limits.{most_width}
use Rattle.share_types.specs.Sums.{word_difference}
use Rattle.circuit_tables.specs.Table.{Told}
use Rattle.mixed_language.specs.declared.language.Operation.{Operation}
use Rattle.mixed_language.specs.declared.language.Operation.TheVariants.{InputWord, InputBits, ConstWord, ConstBits, Add, Sub, Mul, AddConst, MulConst, Xor, And, Not, Slice, Join, A2Y, A2B, B2Y, Y2B, B2A, Y2A, Output}
use Rattle.mixed_language.specs.Language.{states, is_told_slot}
use Rattle.mixed_language.specs.Circuit.{Circuit, Statement, Shape}
use Rattle.share_types.specs.Wires.{width_of}
use Rattle.mixed_language.specs.Table.{owner_of, inputs_of, receiver_of, name_at, width_at, told_value}

-- what the value of a statement is made of: the number of its input, those of its first and its second
-- operand, the width of the value and of the first operand, and the place and the constant that its line
-- states
pub record Seen : Type 0 where
  pub input : ℕ
  pub x : ℕ
  pub y : ℕ
  pub width : ℕ
  pub low : ℕ
  pub place : ℕ
  pub constant : ℕ

-- the number of an operation's value, before it is cut to the value's width. Every conversion keeps the
-- number
abbrev pub number_made : Operation → Seen → ℕ
number_made InputWord v = v.input
number_made InputBits v = v.input
number_made ConstWord v = v.constant
number_made ConstBits v = v.constant
number_made Add v = v.x + v.y
number_made Sub v = word_difference v.x v.y
number_made Mul v = v.x * v.y
number_made AddConst v = v.x + v.constant
number_made MulConst v = v.x * v.constant
number_made Xor v = bit_xor v.x v.y
number_made And v = bit_and v.x v.y
number_made Not v = bit_xor v.x (2 ^ v.width - 1)
number_made Slice v = v.x / 2 ^ v.place
number_made Join v = v.x + 2 ^ v.low * v.y
number_made A2Y v = v.x
number_made A2B v = v.x
number_made B2Y v = v.x
number_made Y2B v = v.x
number_made B2A v = v.x
number_made Y2A v = v.x
number_made Output v = v.x

-- the number of an operation's value, which has no bit at or above its width
abbrev pub value_made : Operation → Seen → ℕ
value_made operation v = number_made operation v % 2 ^ v.width

-- how many inputs a statement is
abbrev pub inputs_taken : Shape → ℕ
inputs_taken shape = once (is_some (owner_of shape))

-- the width of what a statement gives: that of its value. An output gives the number that is told as it is
abbrev pub width_given_by : Statement → ℕ
width_given_by s = unwrap_or (option_map width_of s.wire) most_width

-- the value at the place of an operand, if there is one
abbrev pub value_at : List ℕ → Option ℕ → ℕ
value_at values None = 0
value_at values (Some at) = slice_index values at

-- the width of the value at the place of an operand, if there is one
abbrev pub operand_width : List Statement → Option ℕ → ℕ
operand_width statements None = 0
operand_width statements (Some at) = width_at statements at

-- what a value is made of, from the number of the input, the values before it, and its width
abbrev pub seen_of : List Statement → Shape → ℕ → List ℕ → ℕ → Seen
seen_of statements shape input before width = record {
  input = input;
  x = value_at before (slice_get shape.operands 0);
  y = value_at before (slice_get shape.operands 1);
  width = width;
  low = operand_width statements (slice_get shape.operands 0);
  place = shape.place;
  constant = shape.constant;
}

-- the value of the statement at a place, from the numbers of all inputs, of which the k-th input has the
-- k-th, and from the values before it
abbrev pub value_of_statement : List Statement → List ℕ → List ℕ → ℕ → Statement → ℕ
value_of_statement statements inputs before at s =
    value_made s.shape.operation
    (seen_of statements s.shape
    (slice_index inputs (length (inputs_of (take at statements)))) before (width_given_by s))

-- numbers are the values of a circuit's statements on the numbers of its inputs: one for each statement,
-- which is what its operation makes of those before it
pub record IsEvaluated (statements : List Statement) (inputs values : List ℕ) : Type 0 where
  pub count : length values ≡ length statements
  pub each : (at : ℕ) (s : Statement) → slice_get statements at ≡ Some s →
      slice_get values at ≡ Some (value_of_statement statements inputs (take at values) at s)

-- no two lists of numbers are the values of the same statements on the same inputs
abbrev pub EvaluatesOnce : Type 0
EvaluatesOnce =
    (statements : List Statement) (inputs values others : List ℕ) →
    IsEvaluated statements inputs values → IsEvaluated statements inputs others → values ≡ others

-- what a statement tells, if it is an output: the bits of the value
abbrev pub told_by : List Statement → List ℕ → Statement → List Told
told_by all values s =
    if states is_told_slot s.shape.operation
    then record {
      name = name_at all (told_value s);
      to = receiver_of s.shape.party;
      bits = bits (width_at all (told_value s)) (slice_index values (told_value s));
    } ∷ []
    else []

-- what statements of a circuit tell, in their order
abbrev pub told_among : List Statement → List ℕ → List Statement → List Told
told_among all values [] = []
told_among all values (s ∷ more) = told_by all values s ++ told_among all values more

-- the outputs of a circuit, from the values of its statements
abbrev pub told_of : Circuit → List ℕ → List Told
told_of c values = told_among c.statements values c.statements

-- outputs are those of the plain evaluation of a circuit on its inputs, a list of bits for each
pub record IsPlain (c : Circuit) (inputs : List (List Bool)) (outputs : List Told) : Type 0 where
  pub values : List ℕ
  pub evaluated : IsEvaluated c.statements (map number inputs) values
  pub told : outputs ≡ told_of c values

-- each circuit has a plain evaluation on any lists of bits
abbrev pub EachEvaluates : Type 0
EachEvaluates = (c : Circuit) (inputs : List (List Bool)) → (outputs : List Told) × IsPlain c inputs outputs
