-- What a plan computes in plain: one number for each gate. A wire that is shared as keys has two gates, and its number is
-- the XOR of theirs: a mask has the bits that were set or flipped, and 0 where it is fresh, and masked bits have what was
-- entered or computed.
use Rattle.std.specs.Prelude.{ℕ, zero, suc, ◌≡◌, ◌+◌, ◌*◌, ◌/◌, ◌%◌, ◌^◌, Bool, List, [], ◌∷◌, ◌++◌, length, slice_get, slice_index, Option, Some, None, bit_and, bit_xor}
use Rattle.share_types.specs.declared.receiver.Receiver.{Receiver}
use Rattle.share_types.specs.Bits.{bits}
use Rattle.share_types.specs.Sums.{word_difference, sum_to, xor_to}
use Rattle.plan_gates.specs.Gate.{Kind, Gate, InA, ConstA, AddA, SubA, AddConstA, MulConstA, MulA, OutA, InB, ConstB, XorB, XorConstB, SliceB, JoinB, AndB, OutB, KeyMask, ConstMask, XorMask, FlipMask, SliceMask, JoinMask, InOnline, ShareAOnline, ShareBOnline, ZeroOnline, XorOnline, SliceOnline, JoinOnline, Garble, EvalY, YToB, BToA, operands, receiver_of, low_width}
use Rattle.plan_gates.specs.Plan.{Gates, StandsAt}

-- what comes from outside: the numbers of the circuit's inputs, and of a value of which each party enters a part of its
-- own, these parts, by party and by the gate of the value
pub record Outside : Type 0 where
  pub inputs : List ℕ
  pub parts : ℕ → ℕ → ℕ

-- inputs alone
abbrev pub only : List ℕ → Outside
only inputs = record { inputs = inputs; parts = λ party g. 0 }

-- what the number of a gate is made of: what comes from outside, the numbers of its operands in order, of which there
-- are three at most, the width of the first, and, where that is a garbled table, the numbers of the two masks of which it
-- is made
pub record Seen : Type 0 where
  pub outside : Outside
  pub x : ℕ
  pub y : ℕ
  pub z : ℕ
  pub low : ℕ
  pub left : ℕ
  pub right : ℕ

-- the number of a gate, before it is cut to the gate's width
abbrev pub number_of : Kind → Seen → ℕ
number_of (InA party k) v = slice_index v.outside.inputs k
number_of (ConstA c) v = c
number_of (AddA x y) v = v.x + v.y
number_of (SubA x y) v = word_difference v.x v.y
number_of (AddConstA x c) v = v.x + c
number_of (MulConstA x c) v = v.x * c
number_of (MulA x y) v = v.x * v.y
number_of (OutA x to) v = v.x
number_of (InB party k at) v = slice_index v.outside.inputs k / 2 ^ at
number_of (ConstB c) v = c
number_of (XorB x y) v = bit_xor v.x v.y
number_of (XorConstB x c) v = bit_xor v.x c
number_of (SliceB x at) v = v.x / 2 ^ at
number_of (JoinB x y) v = v.x + 2 ^ v.low * v.y
number_of (AndB x y) v = bit_and v.x v.y
number_of (OutB x to) v = v.x
number_of KeyMask v = 0
number_of (ConstMask c) v = c
number_of (XorMask x y) v = bit_xor v.x v.y
number_of (FlipMask x c) v = bit_xor v.x c
number_of (SliceMask x at) v = v.x / 2 ^ at
number_of (JoinMask x y) v = v.x + 2 ^ v.low * v.y
number_of (InOnline party k at m) v = slice_index v.outside.inputs k / 2 ^ at
number_of (ShareAOnline party x m) v = v.outside.parts party x
number_of (ShareBOnline party x m) v = v.outside.parts party x
number_of ZeroOnline v = 0
number_of (XorOnline x y) v = bit_xor v.x v.y
number_of (SliceOnline x at) v = v.x / 2 ^ at
number_of (JoinOnline x y) v = v.x + 2 ^ v.low * v.y
number_of (Garble x y m) v = 0
number_of (EvalY t x y) v = bit_and (bit_xor v.y v.left) (bit_xor v.z v.right)
number_of (YToB m o) v = bit_xor v.x v.y
number_of (BToA x) v = v.x

-- the number of the gate at the place of an operand, if there is one
abbrev pub operand_number : List ℕ → Option ℕ → ℕ
operand_number before None = 0
operand_number before (Some x) = slice_index before x

-- the operands of a gate's first operand
abbrev pub operands_there : Option Gate → List ℕ
operands_there None = []
operands_there (Some gate) = operands gate.kind

abbrev pub operands_behind : List Gate → Option ℕ → List ℕ
operands_behind gates None = []
operands_behind gates (Some x) = operands_there (slice_get gates x)

abbrev pub seen_of : List Gate → Outside → List ℕ → Kind → Seen
seen_of gates outside before kind = record {
  outside = outside;
  x = operand_number before (slice_get (operands kind) 0);
  y = operand_number before (slice_get (operands kind) 1);
  z = operand_number before (slice_get (operands kind) 2);
  low = low_width gates kind;
  left = operand_number before (slice_get (operands_behind gates (slice_get (operands kind) 0)) 0);
  right = operand_number before (slice_get (operands_behind gates (slice_get (operands kind) 0)) 1);
}

-- the number of a gate, from those of the gates before it
abbrev pub gate_number : List Gate → Outside → List ℕ → Gate → ℕ
gate_number gates outside before gate = number_of gate.kind (seen_of gates outside before gate.kind) % 2 ^ gate.width

abbrev pub number_at : List Gate → Outside → List ℕ → Option Gate → ℕ
number_at gates outside before None = 0
number_at gates outside before (Some gate) = gate_number gates outside before gate

-- the numbers of the gates before a place
abbrev pub plain_before : List Gate → Outside → ℕ → List ℕ
plain_before gates outside zero = []
plain_before gates outside (suc g) =
    plain_before gates outside g
    ++ number_at gates outside (plain_before gates outside g) (slice_get gates g) ∷ []

-- the numbers of all gates of a plan
abbrev pub plain_numbers : Gates → Outside → List ℕ
plain_numbers plan outside = plain_before plan.gates outside (length plan.gates)

-- the parts of each value that the parties enter recombine to its number: by sum where it is a word, and by XOR where it is
-- a vector
pub record AreLawful (plan : Gates) (outside : Outside) (numbers : List ℕ) : Type 0 where
  pub words : (o party x m w : ℕ) → StandsAt plan.gates o (ShareAOnline party x m) w →
      sum_to plan.parties (λ p. outside.parts p x) % 2 ^ 64 ≡ slice_index numbers x
  pub vectors : (o party x m w : ℕ) → StandsAt plan.gates o (ShareBOnline party x m) w →
      xor_to plan.parties (λ p. outside.parts p x) % 2 ^ w ≡ slice_index numbers x

-- what an output gate tells: who is told, and the bits
pub record GateTold : Type 0 where
  pub to : Receiver
  pub bits : List Bool

abbrev pub told_entry : ℕ → ℕ → Option Receiver → List GateTold
told_entry width number None = []
told_entry width number (Some to) = record { to = to; bits = bits width number } ∷ []

-- what the gates tell whose numbers these are, in their order
abbrev pub told_by : List Gate → List ℕ → List GateTold
told_by [] numbers = []
told_by (gate ∷ gates) [] = []
told_by (gate ∷ gates) (n ∷ numbers) = told_entry gate.width n (receiver_of gate.kind) ++ told_by gates numbers
