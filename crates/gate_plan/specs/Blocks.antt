-- The gates of a part of a circuit, and the wires of the values that they give.
use Rattle.std.specs.Prelude.{ℕ, zero, suc, ◌≡◌, ◌<◌, ◌+◌, ◌^◌, Bool, true, false, List, [], ◌∷◌, ◌++◌, slice_get, slice_index, Some, bit_xor}
use Rattle.std.specs.Option.{unwrap_or}
use Rattle.share_types.specs.declared.receiver.Receiver.{Receiver}
use Rattle.plan_gates.specs.Gate.{Kind, Gate, gate_of, InB, ConstB, XorB, XorConstB, SliceB, JoinB, AndB, OutB, KeyMask, ConstMask, XorMask, FlipMask, SliceMask, JoinMask, InOnline, ZeroOnline, XorOnline, SliceOnline, JoinOnline, Garble, EvalY, YToB, width_at}
use Rattle.plan_gates.specs.Plain.{Outside, gate_number}
use Rattle.gate_plan.specs.declared.wire.Wire.{Wire}

-- the wire of a word or a vector, which has its one gate twice
abbrev pub single : ℕ → Wire
single n = record { mask = n; gate = n }

-- the wire of the value at a place, and that of gate 0 where there is none
abbrev pub wire_among : List Wire → ℕ → Wire
wire_among wires at = unwrap_or (slice_get wires at) (single 0)

-- some gates, and the wire of the value that they give
pub record Block : Type 0 where
  pub gates : List Gate
  pub wire : Wire

-- one gate of a width, which has the number n
abbrev pub one : ℕ → ℕ → Kind → Block
one n width kind = record { gates = gate_of kind width ∷ []; wire = single n }

-- a mask with the number n, and the masked bits behind it
abbrev pub two : ℕ → ℕ → Kind → Kind → Block
two n width mask online = record {
  gates = gate_of mask width ∷ gate_of online width ∷ [];
  wire = record { mask = n; gate = n + 1 };
}

-- ---- operations on bits, whose value is shared as keys or by XOR: the gates, of which the first has the number n

-- bits of an input of a party
abbrev pub entered : Bool → ℕ → ℕ → ℕ → ℕ → ℕ → Block
entered false n width party k at = one n width (InB party k at)
entered true n width party k at = two n width KeyMask (InOnline party k at n)

abbrev pub constant : Bool → ℕ → ℕ → ℕ → Block
constant false n width c = one n width (ConstB c)
constant true n width c = two n width (ConstMask c) ZeroOnline

abbrev pub xored : Bool → ℕ → ℕ → Wire → Wire → Block
xored false n width a b = one n width (XorB a.gate b.gate)
xored true n width a b = two n width (XorMask a.mask b.mask) (XorOnline a.gate b.gate)

-- an AND of keys is a fresh mask, a garbled table and what it is evaluated to
abbrev pub anded : Bool → ℕ → ℕ → Wire → Wire → Block
anded false n width a b = one n width (AndB a.gate b.gate)
anded true n width a b = record {
  gates =
      gate_of KeyMask width ∷ gate_of (Garble a.mask b.mask n) width
      ∷ gate_of (EvalY (n + 1) a.gate b.gate) width ∷ [];
  wire = record { mask = n; gate = n + 2 };
}

-- where bits are flipped, the masked bits stay as they are
abbrev pub flipped : Bool → ℕ → ℕ → Wire → ℕ → Block
flipped false n width a c = one n width (XorConstB a.gate c)
flipped true n width a c = record {
  gates = gate_of (FlipMask a.mask c) width ∷ [];
  wire = record { mask = n; gate = a.gate };
}

abbrev pub sliced : Bool → ℕ → ℕ → Wire → ℕ → Block
sliced false n width a at = one n width (SliceB a.gate at)
sliced true n width a at = two n width (SliceMask a.mask at) (SliceOnline a.gate at)

abbrev pub joined : Bool → ℕ → ℕ → Wire → Wire → Block
joined false n width a b = one n width (JoinB a.gate b.gate)
joined true n width a b = two n width (JoinMask a.mask b.mask) (JoinOnline a.gate b.gate)

-- an output of keys becomes a vector first. Its wire is that of what it tells
abbrev pub told : Bool → ℕ → ℕ → Wire → Receiver → Block
told false n width a to = one n width (OutB a.gate to)
told true n width a to = record {
  gates = gate_of (YToB a.mask a.gate) width ∷ gate_of (OutB n to) width ∷ [];
  wire = single (n + 1);
}

-- so many lists of gates, one behind another
abbrev pub in_row : ℕ → (ℕ → List Gate) → List Gate
in_row zero gates = []
in_row (suc i) gates = in_row i gates ++ gates i

-- no gate
abbrev pub no_block : Block
no_block = record { gates = []; wire = single 0 }

-- what a part of a circuit is lowered to: its gates, and the wire of each of its values
pub record Lowered : Type 0 where
  pub gates : List Gate
  pub wires : List Wire

abbrev pub with_block : Lowered → Block → Lowered
with_block l b = record { gates = l.gates ++ b.gates; wires = l.wires ++ b.wire ∷ [] }

-- ---- what is told of the gates of a finished plan

-- some gates stand in a plan from a place on
abbrev pub Stand : List Gate → ℕ → List Gate → Type 0
Stand gates n block =
    (i : ℕ) (gate : Gate) → slice_get block i ≡ Some gate → slice_get gates (n + i) ≡ Some gate

-- numbers are those of a plan's gates: each is made of those of its gate's operands
abbrev pub AreNumbers : List Gate → Outside → List ℕ → Type 0
AreNumbers gates outside numbers =
    (g : ℕ) (gate : Gate) → slice_get gates g ≡ Some gate →
    slice_get numbers g ≡ Some (gate_number gates outside numbers gate)

-- the number of a value: that of its gate, or, where it is shared as keys, the XOR of those of both gates
abbrev pub IsNumberOf : Bool → List ℕ → Wire → ℕ → Type 0
IsNumberOf false numbers a value = slice_get numbers a.gate ≡ Some value
IsNumberOf true numbers a value =
    (mask online : ℕ) × (slice_get numbers a.mask ≡ Some mask) × (slice_get numbers a.gate ≡ Some online)
    × (value ≡ bit_xor mask online)

-- both gates of a wire that is shared as keys have a width, and the XOR of their numbers is a number
pub record HasKeys (gates : List Gate) (numbers : List ℕ) (a : Wire) (width x : ℕ) : Type 0 where
  pub mask_width : width_at gates a.mask ≡ width
  pub online_width : width_at gates a.gate ≡ width
  pub mask_there : slice_get numbers a.mask ≡ Some (slice_index numbers a.mask)
  pub online_there : slice_get numbers a.gate ≡ Some (slice_index numbers a.gate)
  pub mask_small : slice_index numbers a.mask < 2 ^ width
  pub online_small : slice_index numbers a.gate < 2 ^ width
  pub is : bit_xor (slice_index numbers a.mask) (slice_index numbers a.gate) ≡ x
