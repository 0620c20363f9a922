-- Plans, and which of them are valid.
use Rattle.std.specs.Prelude.{ℕ, ◌≡◌, ◌<◌, ◌≤◌, ◌+◌, ◌^◌, Bool, List, [], ◌∷◌, ◌++◌, length, map, slice_get, Some, IfSome}
use Rattle.std.specs.List.{AllByRecursion, list_any}
use Rattle.mot_base.specs.Limits.{least_parties, most_parties, most_width, most_gates}
use Rattle.plan_gates.specs.declared.draft.Sizes.{Sizes}
use Rattle.plan_gates.specs.Gate.{Kind, Gate, Use, Word, SliceB, JoinB, KeyMask, ConstMask, XorMask, FlipMask, SliceMask, JoinMask, InOnline, ShareAOnline, ShareBOnline, ZeroOnline, XorOnline, SliceOnline, JoinOnline, Garble, EvalY, YToB, BToA, gate_of, is_of_keys, is_conversion, gives, uses, operands, party_of, constant_of, width_at, low_width}

-- the gates that so many parties run, of which each stands behind those whose values it uses
pub record Gates : Type 0 where
  pub parties : ℕ
  pub gates : List Gate

-- on what a gate's needs and messages hang beside its kind
abbrev pub sizes_of : Gates → Gate → Sizes
sizes_of plan gate = record { parties = plan.parties; width = gate.width; low = low_width plan.gates gate.kind }

-- an operand of the gate at a place: the gate of that number stands before, and gives what is taken
abbrev pub IsOperand : List Gate → ℕ → Use → Type 0
IsOperand gates g used =
    (used.gate < g) × (gate : Gate) × (slice_get gates used.gate ≡ Some gate) × (gives gate.kind ≡ used.given)

-- the widths of the operands fit the width of the value: a slice lies within its operand, a join has the bits of both, a
-- word is made of any vector, and all else is as wide as each operand
abbrev pub FitWidths : Kind → ℕ → List ℕ → Type 0
FitWidths (SliceB x at) width widths = AllByRecursion (λ w. at + width ≤ w) widths
FitWidths (SliceMask x at) width widths = AllByRecursion (λ w. at + width ≤ w) widths
FitWidths (SliceOnline x at) width widths = AllByRecursion (λ w. at + width ≤ w) widths
FitWidths (JoinB x y) width (low ∷ high ∷ []) = width ≡ low + high
FitWidths (JoinMask x y) width (low ∷ high ∷ []) = width ≡ low + high
FitWidths (JoinOnline x y) width (low ∷ high ∷ []) = width ≡ low + high
FitWidths (BToA x) width widths = Unit {0}
FitWidths kind width widths = AllByRecursion (λ w. w ≡ width) widths

-- ---- wires that are shared as keys

-- a gate of a kind and a width stands at a place
abbrev pub StandsAt : List Gate → ℕ → Kind → ℕ → Type 0
StandsAt gates g kind width = slice_get gates g ≡ Some (gate_of kind width)

-- a mask and masked bits that are one wire: an input or a party's share that is entered behind a fresh mask, a constant, the
-- result of an operation that both make of wires, a flip, of which the mask alone knows, or the result of a garbled AND
pub data IsWire (gates : List Gate) : ℕ → ℕ → Type 0 where
  enters : (m o w party k at : ℕ) → StandsAt gates m KeyMask w → StandsAt gates o (InOnline party k at m) w → IsWire gates m o
  enters_word : (m o w party x : ℕ) → StandsAt gates m KeyMask w → StandsAt gates o (ShareAOnline party x m) w →
      IsWire gates m o
  enters_vector : (m o w party x : ℕ) → StandsAt gates m KeyMask w → StandsAt gates o (ShareBOnline party x m) w →
      IsWire gates m o
  stays : (m o w c : ℕ) → StandsAt gates m (ConstMask c) w → StandsAt gates o ZeroOnline w → IsWire gates m o
  flips : (m o w u c : ℕ) → StandsAt gates m (FlipMask u c) w → IsWire gates u o → IsWire gates m o
  xors : (m o w u v a b : ℕ) → StandsAt gates m (XorMask u v) w → StandsAt gates o (XorOnline a b) w →
      IsWire gates u a → IsWire gates v b → IsWire gates m o
  slices : (m o w u a at : ℕ) → StandsAt gates m (SliceMask u at) w → StandsAt gates o (SliceOnline a at) w →
      IsWire gates u a → IsWire gates m o
  joins : (m o w u v a b : ℕ) → StandsAt gates m (JoinMask u v) w → StandsAt gates o (JoinOnline a b) w →
      IsWire gates u a → IsWire gates v b → IsWire gates m o
  evaluates : (m o w t u v a b : ℕ) → StandsAt gates m KeyMask w → StandsAt gates t (Garble u v m) w →
      StandsAt gates o (EvalY t a b) w → IsWire gates u a → IsWire gates v b → IsWire gates m o

-- a fresh mask stands at a place
abbrev pub IsFresh : List Gate → ℕ → Type 0
IsFresh gates m = (width : ℕ) × StandsAt gates m KeyMask width

-- a garbled table stands at a place, of two wires with these masked bits
pub record IsTableOf (gates : List Gate) (t a b : ℕ) : Type 0 where
  pub width : ℕ
  pub u : ℕ
  pub v : ℕ
  pub m : ℕ
  pub table : StandsAt gates t (Garble u v m) width
  pub first : IsWire gates u a
  pub second : IsWire gates v b

-- what a gate of keys takes belongs together: the mask of an entry and that of a table's result are fresh, what is
-- evaluated are the wires of the table, and what becomes a vector is a wire
abbrev pub ArePaired : List Gate → Kind → Type 0
ArePaired gates (InOnline party k at m) = IsFresh gates m
ArePaired gates (ShareAOnline party x m) = IsFresh gates m
ArePaired gates (ShareBOnline party x m) = IsFresh gates m
ArePaired gates (Garble u v m) = IsFresh gates m
ArePaired gates (EvalY t a b) = IsTableOf gates t a b
ArePaired gates (YToB m o) = IsWire gates m o
ArePaired gates _ = Unit {0}

-- a gate that may stand at a place of a plan
pub record IsGate (plan : Gates) (g : ℕ) (gate : Gate) : Type 0 where
  pub some_width : 1 ≤ gate.width
  pub in_width : gate.width ≤ most_width
  pub word : gives gate.kind ≡ Word → gate.width ≡ most_width
  pub small : constant_of gate.kind < 2 ^ gate.width
  pub uses : AllByRecursion (IsOperand plan.gates g) (uses gate.kind)
  pub fit : FitWidths gate.kind gate.width (map (width_at plan.gates) (operands gate.kind))
  pub paired : ArePaired plan.gates gate.kind
  pub party : IfSome (party_of gate.kind) (λ party. party < plan.parties)

-- a valid plan
pub record IsPlan (plan : Gates) : Type 0 where
  pub some_parties : least_parties ≤ plan.parties
  pub most_parties : plan.parties ≤ most_parties
  pub few : length plan.gates ≤ most_gates
  pub each : (g : ℕ) (gate : Gate) → slice_get plan.gates g ≡ Some gate → IsGate plan g gate

-- the plan of no gate, and the plan with one gate more or with some
abbrev pub no_gates : ℕ → Gates
no_gates parties = record { parties = parties; gates = [] }

abbrev pub with_gate : Gates → Gate → Gates
with_gate plan gate = record plan { gates = plan.gates ++ gate ∷ [] }

abbrev pub with_gates : Gates → List Gate → Gates
with_gates plan more = record plan { gates = plan.gates ++ more }

-- whether a plan has a gate of keys, and whether it has one of a conversion
abbrev pub has_keys : Gates → Bool
has_keys plan = list_any (λ gate. is_of_keys gate.kind) plan.gates

abbrev pub has_conversions : Gates → Bool
has_conversions plan = list_any (λ gate. is_conversion gate.kind) plan.gates
