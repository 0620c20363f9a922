-- The language, one row for each operation: its word, what its line is made of, how its operands may be
-- shared, how its value is shared, and how wide that is.
use Rattle.std.specs.Prelude.{ℕ, Bool, true, false, List, [], ◌∷◌, length, filter, codes}
use Rattle.std.specs.List.{list_any}
use Rattle.share_types.specs.declared.sharing.Sharing.{Sharing}
use Rattle.share_types.specs.declared.sharing.Sharing.TheVariants as sharing
use Rattle.mixed_language.specs.declared.language.Operation.{Operation}
use Rattle.mixed_language.specs.declared.language.Operation.TheVariants.{InputWord, InputBits, ConstWord, ConstBits, Add, Sub, Mul, AddConst, MulConst, Xor, And, Not, Slice, Join, A2Y, A2B, B2Y, Y2B, B2A, Y2A, Output}
use Rattle.mixed_language.specs.declared.language.Slot.{Slot}
use Rattle.mixed_language.specs.declared.language.Slot.TheVariants.{Name, Equals, Keyword, Owner, Letter, Width, Place, Constant, Operand, Told}
use Rattle.mixed_language.specs.declared.language.Domain.{Domain}
use Rattle.mixed_language.specs.declared.language.Domain.TheVariants.{Arithmetic, Boolean, Garbled, Vectors, Every}
use Rattle.mixed_language.specs.declared.language.Widths.{Widths}
use Rattle.mixed_language.specs.declared.language.Widths.TheVariants.{Whole, Stated, Alike, Cut, Joined}

-- every operation, in the order in which lines are compared with them
abbrev pub operations : List Operation
operations =
    InputWord ∷ InputBits ∷ ConstWord ∷ ConstBits ∷ Add ∷ Sub ∷ Mul ∷ AddConst ∷ MulConst
    ∷ Xor ∷ And ∷ Not ∷ Slice ∷ Join ∷ A2Y ∷ A2B ∷ B2Y ∷ Y2B ∷ B2A ∷ Y2A ∷ Output ∷ []

-- the word of an operation
abbrev pub word_of : Operation → List ℕ
word_of InputWord = codes "input"
word_of InputBits = codes "input"
word_of ConstWord = codes "const"
word_of ConstBits = codes "const"
word_of Add = codes "add"
word_of Sub = codes "sub"
word_of Mul = codes "mul"
word_of AddConst = codes "add_const"
word_of MulConst = codes "mul_const"
word_of Xor = codes "xor"
word_of And = codes "and"
word_of Not = codes "not"
word_of Slice = codes "slice"
word_of Join = codes "join"
word_of A2Y = codes "a2y"
word_of A2B = codes "a2b"
word_of B2Y = codes "b2y"
word_of Y2B = codes "y2b"
word_of B2A = codes "b2a"
word_of Y2A = codes "y2a"
word_of Output = codes "output"

-- what the words of an operation's line stand for, one each
abbrev pub slots_of : Operation → List Slot
slots_of InputWord = Name ∷ Equals ∷ Keyword ∷ Owner ∷ Letter ∷ []
slots_of InputBits = Name ∷ Equals ∷ Keyword ∷ Owner ∷ Letter ∷ Width ∷ []
slots_of ConstWord = Name ∷ Equals ∷ Keyword ∷ Letter ∷ Constant ∷ []
slots_of ConstBits = Name ∷ Equals ∷ Keyword ∷ Letter ∷ Width ∷ Constant ∷ []
slots_of Add = Name ∷ Equals ∷ Keyword ∷ Operand ∷ Operand ∷ []
slots_of Sub = Name ∷ Equals ∷ Keyword ∷ Operand ∷ Operand ∷ []
slots_of Mul = Name ∷ Equals ∷ Keyword ∷ Operand ∷ Operand ∷ []
slots_of AddConst = Name ∷ Equals ∷ Keyword ∷ Operand ∷ Constant ∷ []
slots_of MulConst = Name ∷ Equals ∷ Keyword ∷ Operand ∷ Constant ∷ []
slots_of Xor = Name ∷ Equals ∷ Keyword ∷ Operand ∷ Operand ∷ []
slots_of And = Name ∷ Equals ∷ Keyword ∷ Operand ∷ Operand ∷ []
slots_of Not = Name ∷ Equals ∷ Keyword ∷ Operand ∷ []
slots_of Slice = Name ∷ Equals ∷ Keyword ∷ Operand ∷ Place ∷ Width ∷ []
slots_of Join = Name ∷ Equals ∷ Keyword ∷ Operand ∷ Operand ∷ []
slots_of A2Y = Name ∷ Equals ∷ Keyword ∷ Operand ∷ []
slots_of A2B = Name ∷ Equals ∷ Keyword ∷ Operand ∷ []
slots_of B2Y = Name ∷ Equals ∷ Keyword ∷ Operand ∷ []
slots_of Y2B = Name ∷ Equals ∷ Keyword ∷ Operand ∷ []
slots_of B2A = Name ∷ Equals ∷ Keyword ∷ Operand ∷ []
slots_of Y2A = Name ∷ Equals ∷ Keyword ∷ Operand ∷ []
slots_of Output = Keyword ∷ Operand ∷ Told ∷ []

-- how its operands may be shared, all of them alike, or its value where the line has a letter
abbrev pub domain_of : Operation → Domain
domain_of InputBits = Vectors
domain_of ConstBits = Vectors
domain_of Xor = Vectors
domain_of And = Vectors
domain_of Not = Vectors
domain_of Slice = Vectors
domain_of Join = Vectors
domain_of B2Y = Boolean
domain_of B2A = Boolean
domain_of Y2B = Garbled
domain_of Y2A = Garbled
domain_of Output = Every
domain_of _ = Arithmetic

abbrev pub is_in : Domain → Sharing → Bool
is_in Arithmetic sharing.A = true
is_in Boolean sharing.B = true
is_in Garbled sharing.Y = true
is_in Vectors sharing.B = true
is_in Vectors sharing.Y = true
is_in Every given = true
is_in _ _ = false

-- how its value is shared, if it has one, where its operands or its letter are of a sharing
abbrev pub gives : Operation → Sharing → Sharing
gives A2Y given = sharing.Y
gives A2B given = sharing.B
gives B2Y given = sharing.Y
gives Y2B given = sharing.B
gives B2A given = sharing.A
gives Y2A given = sharing.A
gives _ given = given

-- how wide its value is: 64 bits, the width that the line states, the width of all operands alike, that of
-- bits cut out of the operand, or that of the operands joined
abbrev pub widths_of : Operation → Widths
widths_of InputWord = Whole
widths_of InputBits = Stated
widths_of ConstWord = Whole
widths_of ConstBits = Stated
widths_of Slice = Cut
widths_of Join = Joined
widths_of B2A = Whole
widths_of Y2A = Whole
widths_of _ = Alike

-- ---- what the line of an operation states

-- whether a word of the line stands for such a thing
abbrev pub states : (Slot → Bool) → Operation → Bool
states test operation = list_any test (slots_of operation)

abbrev pub is_name_slot : Slot → Bool
is_name_slot Name = true
is_name_slot _ = false

abbrev pub is_letter_slot : Slot → Bool
is_letter_slot Letter = true
is_letter_slot _ = false

abbrev pub is_owner_slot : Slot → Bool
is_owner_slot Owner = true
is_owner_slot _ = false

abbrev pub is_party_slot : Slot → Bool
is_party_slot Owner = true
is_party_slot Told = true
is_party_slot _ = false

abbrev pub is_told_slot : Slot → Bool
is_told_slot Told = true
is_told_slot _ = false

abbrev pub is_width_slot : Slot → Bool
is_width_slot Width = true
is_width_slot _ = false

abbrev pub is_place_slot : Slot → Bool
is_place_slot Place = true
is_place_slot _ = false

abbrev pub is_constant_slot : Slot → Bool
is_constant_slot Constant = true
is_constant_slot _ = false

abbrev pub is_operand_slot : Slot → Bool
is_operand_slot Operand = true
is_operand_slot _ = false

-- how many operands an operation has
abbrev pub arity_of : Operation → ℕ
arity_of operation = length (filter is_operand_slot (slots_of operation))
