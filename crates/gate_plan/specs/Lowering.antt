-- The gates of a circuit's statements.
use Rattle.std.specs.Prelude.{ℕ, zero, suc, ◌+◌, ◌-◌, ◌*◌, ◌^◌, Bool, true, false, List, [], length, take, slice_get, Option, Some, None, option_map, if◌then◌else◌}
use Rattle.std.specs.Option.{unwrap_or}
use Rattle.share_types.specs.declared.sharing.WireType.{WireType}
use Rattle.share_types.specs.declared.sharing.WireType.TheVariants as wire
use Rattle.mixed_language.specs.declared.language.Operation.{Operation}
use Rattle.mixed_language.specs.declared.language.Operation.TheVariants.{InputWord, InputBits, ConstWord, ConstBits, Add, Sub, Mul, AddConst, MulConst, Xor, And, Not, Slice, Join, A2Y, A2B, B2Y, Y2B, B2A, Y2A, Output}
use Rattle.mixed_language.specs.Circuit.{Circuit, Statement, Shape, wire_at}
use Rattle.share_types.specs.Wires.{width_of}
use Rattle.mixed_language.specs.Eval.{operand_width}
use Rattle.mixed_language.specs.Table.{inputs_of, told_value, receiver_of}
use Rattle.share_types.specs.declared.receiver.Receiver.{Receiver}
use Rattle.plan_gates.specs.Gate.{InA, ConstA, AddA, SubA, AddConstA, MulConstA, MulA, OutA, OutB, YToB, BToA}
use Rattle.plan_gates.specs.Plan.{Gates}
use Rattle.gate_plan.specs.declared.wire.Wire.{Wire}
use Rattle.gate_plan.specs.Blocks.{Block, Lowered, single, wire_among, one, entered, constant, xored, anded, flipped, sliced, joined, told, no_block, with_block}
use Rattle.gate_plan.specs.declared.convert.Parts.TheVariants.{Word, Vector}
use Rattle.gate_plan.specs.Convert.{from_parts, then_one}

-- ---- how many gates the statements of a circuit have

-- what is of the value that an output tells, and for all else of the statement's own value
abbrev pub handled_by : {X : Type 0} → Operation → X → X → X
handled_by Output told own = told
handled_by _ told own = own

-- how the value of a statement is shared, or the value that it tells
abbrev pub wire_handled : List Statement → Statement → Option WireType
wire_handled all s = handled_by s.shape.operation (wire_at all (told_value s)) s.wire

abbrev pub is_keys : Option WireType → Bool
is_keys (Some (wire.Y width)) = true
is_keys _ = false

-- the gates of an adder of two words that are shared as keys
abbrev pub adder_gates : ℕ
adder_gates = 1073

-- how many gates an operation has among so many parties, where its value or what it tells is shared as keys
-- or not: one for each part of a pair of mask and masked bits, three for an AND of keys, a mask and an
-- entry for each party whose share becomes a summand, and then what joins two summands
abbrev pub gates_of : ℕ → Operation → Bool → ℕ
gates_of parties A2Y keys = 2 * parties + adder_gates * (parties - 1)
gates_of parties A2B keys = 2 * parties + adder_gates * (parties - 1) + 1
gates_of parties B2Y keys = 2 * parties + 2 * (parties - 1)
gates_of parties Y2A keys = 2
gates_of parties InputBits true = 2
gates_of parties ConstBits true = 2
gates_of parties Xor true = 2
gates_of parties And true = 3
gates_of parties Slice true = 2
gates_of parties Join true = 2
gates_of parties Output true = 2
gates_of parties _ keys = 1

abbrev pub gates_in : ℕ → List Statement → Option Statement → ℕ
gates_in parties all None = 0
gates_in parties all (Some s) = gates_of parties s.shape.operation (is_keys (wire_handled all s))

-- how many gates the statements before a place have together, which is the number of the first gate there
abbrev pub gates_before : ℕ → List Statement → ℕ → ℕ
gates_before parties all zero = 0
gates_before parties all (suc n) = gates_before parties all n + gates_in parties all (slice_get all n)

-- how many gates a circuit has
abbrev pub all_gates : Circuit → ℕ
all_gates c = gates_before c.parties c.statements (length c.statements)

-- ---- the gates of a statement

-- what the gates of a statement are made of: the wires of its operands, the number of its input, the party
-- whose input it is, who is told, whether a word is told, the width of its value or of what it tells, that
-- of its first operand, and the place and the constant that its line states
pub record Source : Type 0 where
  pub x : Wire
  pub y : Wire
  pub k : ℕ
  pub party : ℕ
  pub to : Receiver
  pub is_word : Bool
  pub width : ℕ
  pub low : ℕ
  pub place : ℕ
  pub constant : ℕ

-- the gates of the bits of the word of a gate: its wire, which becomes a vector
abbrev pub word_bits : ℕ → ℕ → ℕ → ℕ → Block
word_bits parties x width n =
    then_one (from_parts (Word x) parties n) n width (λ sum. YToB sum.mask sum.gate)

-- the gates of the number of a wire of so many bits as a word: a vector, which becomes one
abbrev pub number_of_bits : Wire → ℕ → ℕ → ℕ → Block
number_of_bits a low width n = then_one (one n low (YToB a.mask a.gate)) n width (λ bits. BToA bits.gate)

-- the gates of an operation among so many parties, of which the first has the number n, where its value or
-- what it tells is shared as keys or not, and the wire of that value
abbrev pub block_of : ℕ → Operation → Bool → Source → ℕ → Block
block_of parties InputWord keys v n = one n v.width (InA v.party v.k)
block_of parties InputBits keys v n = entered keys n v.width v.party v.k 0
block_of parties ConstWord keys v n = one n v.width (ConstA v.constant)
block_of parties ConstBits keys v n = constant keys n v.width v.constant
block_of parties Add keys v n = one n v.width (AddA v.x.gate v.y.gate)
block_of parties Sub keys v n = one n v.width (SubA v.x.gate v.y.gate)
block_of parties Mul keys v n = one n v.width (MulA v.x.gate v.y.gate)
block_of parties AddConst keys v n = one n v.width (AddConstA v.x.gate v.constant)
block_of parties MulConst keys v n = one n v.width (MulConstA v.x.gate v.constant)
block_of parties Xor keys v n = xored keys n v.width v.x v.y
block_of parties And keys v n = anded keys n v.width v.x v.y
block_of parties Not keys v n = flipped keys n v.width v.x (2 ^ v.width - 1)
block_of parties Slice keys v n = sliced keys n v.width v.x v.place
block_of parties Join keys v n = joined keys n v.width v.x v.y
block_of parties A2Y keys v n = from_parts (Word v.x.gate) parties n
block_of parties A2B keys v n = word_bits parties v.x.gate v.width n
block_of parties B2Y keys v n = from_parts (Vector v.x.gate v.width) parties n
block_of parties Y2B keys v n = one n v.width (YToB v.x.mask v.x.gate)
block_of parties B2A keys v n = one n v.width (BToA v.x.gate)
block_of parties Y2A keys v n = number_of_bits v.x v.low v.width n
block_of parties Output false v n = one n v.width (if v.is_word then OutA v.x.gate v.to else OutB v.x.gate v.to)
block_of parties Output true v n = told true n v.width v.x v.to

-- the width of a value that is shared so, if there is one
abbrev pub width_handled : Option WireType → ℕ
width_handled handled = unwrap_or (option_map width_of handled) 0

abbrev pub is_word : Option WireType → Bool
is_word (Some wire.A) = true
is_word _ = false

-- the wire of the value at the place of an operand, if there is one
abbrev pub operand_wire : List Wire → Option ℕ → Wire
operand_wire wires None = single 0
operand_wire wires (Some at) = wire_among wires at

-- what the gates of a shape are made of, from the wires of its operands, the number of its input, how its
-- value is shared, or the value that it tells, and the width of its first operand
abbrev pub source_from : Shape → Wire → Wire → ℕ → Option WireType → ℕ → Source
source_from shape x y k handled low = record {
  x = x;
  y = y;
  k = k;
  party = unwrap_or shape.party 0;
  to = receiver_of shape.party;
  is_word = is_word handled;
  width = width_handled handled;
  low = low;
  place = shape.place;
  constant = shape.constant;
}

-- what those of the statement at a place are made of, from the wires of the statements before it
abbrev pub source_of : Circuit → ℕ → List Wire → Statement → Source
source_of c at wires s =
    source_from s.shape
    (operand_wire wires (slice_get s.shape.operands 0))
    (operand_wire wires (slice_get s.shape.operands 1))
    (length (inputs_of (take at c.statements)))
    (wire_handled c.statements s)
    (operand_width c.statements (slice_get s.shape.operands 0))

-- the gates of the statement at a place, behind those of the statements before it
abbrev pub block_at : Circuit → ℕ → Lowered → Option Statement → Block
block_at c at before None = no_block
block_at c at before (Some s) =
    block_of c.parties s.shape.operation (is_keys (wire_handled c.statements s)) (source_of c at before.wires s)
    (length before.gates)

-- the gates of the statements before a place, one statement after another, with a wire for each statement:
-- that of its value, and for an output that of what it tells
abbrev pub lowered_to : Circuit → ℕ → Lowered
lowered_to c zero = record { gates = []; wires = [] }
lowered_to c (suc n) = with_block (lowered_to c n) (block_at c n (lowered_to c n) (slice_get c.statements n))

-- the plan of the statements before a place
abbrev pub draft_to : Circuit → ℕ → Gates
draft_to c n = record { parties = c.parties; gates = (lowered_to c n).gates }

-- the plan of a circuit, and the wires of its statements
abbrev pub lowered : Circuit → Gates
lowered c = draft_to c (length c.statements)

abbrev pub wires_of : Circuit → List Wire
wires_of c = (lowered_to c (length c.statements)).wires
