-- Gates of a plan: what each does, and how wide its value is.
use Rattle.std.specs.Prelude.{ℕ, Bool, true, false, List, [], ◌∷◌, map, Option, Some, None, slice_get, option_map}
use Rattle.std.specs.Option.{unwrap_or}
use Rattle.share_types.specs.declared.receiver.Receiver.{Receiver}
use Rattle.share_types.specs.Wires.{party_told}
use Rattle.plan_gates.specs.declared.gate.GateKind.{GateKind}
use Rattle.plan_gates.specs.declared.gate.GateKind.TheVariants as code

-- what a gate does. x, y, u, v, m, o and t are the numbers of earlier gates, k that of an input of the circuit. A wire
-- that is shared as keys has two gates: one gives the mask of its bits, and one the masked bits with a key for each
pub data Kind : Type 0 where
  InA : (party k : ℕ) → Kind
  ConstA : (c : ℕ) → Kind
  AddA : (x y : ℕ) → Kind
  SubA : (x y : ℕ) → Kind
  AddConstA : (x c : ℕ) → Kind
  MulConstA : (x c : ℕ) → Kind
  MulA : (x y : ℕ) → Kind
  OutA : (x : ℕ) (to : Receiver) → Kind
  InB : (party k at : ℕ) → Kind
  ConstB : (c : ℕ) → Kind
  XorB : (x y : ℕ) → Kind
  XorConstB : (x c : ℕ) → Kind
  SliceB : (x at : ℕ) → Kind
  JoinB : (x y : ℕ) → Kind
  AndB : (x y : ℕ) → Kind
  OutB : (x : ℕ) (to : Receiver) → Kind
  KeyMask : Kind
  ConstMask : (c : ℕ) → Kind
  XorMask : (u v : ℕ) → Kind
  FlipMask : (u c : ℕ) → Kind
  SliceMask : (u at : ℕ) → Kind
  JoinMask : (u v : ℕ) → Kind
  InOnline : (party k at m : ℕ) → Kind
  ShareAOnline : (party x m : ℕ) → Kind
  ShareBOnline : (party x m : ℕ) → Kind
  ZeroOnline : Kind
  XorOnline : (u v : ℕ) → Kind
  SliceOnline : (u at : ℕ) → Kind
  JoinOnline : (u v : ℕ) → Kind
  Garble : (u v m : ℕ) → Kind
  EvalY : (t u v : ℕ) → Kind
  YToB : (m o : ℕ) → Kind
  BToA : (x : ℕ) → Kind

-- a gate: what it does, and the width of its value. An output gate has the width of its operand
pub record Gate : Type 0 where
  pub kind : Kind
  pub width : ℕ

abbrev pub gate_of : Kind → ℕ → Gate
gate_of kind width = record { kind = kind; width = width }

-- the list of all kinds
abbrev pub kind_of : GateKind → Kind
kind_of (code.InA party k) = InA party.0 k
kind_of (code.ConstA c) = ConstA c
kind_of (code.AddA x y) = AddA x y
kind_of (code.SubA x y) = SubA x y
kind_of (code.AddConstA x c) = AddConstA x c
kind_of (code.MulConstA x c) = MulConstA x c
kind_of (code.MulA x y) = MulA x y
kind_of (code.OutA x to) = OutA x to
kind_of (code.InB party k at width) = InB party.0 k at
kind_of (code.ConstB c) = ConstB c.word
kind_of (code.XorB x y) = XorB x y
kind_of (code.XorConstB x c) = XorConstB x c.word
kind_of (code.SliceB x at width) = SliceB x at
kind_of (code.JoinB x y) = JoinB x y
kind_of (code.AndB x y) = AndB x y
kind_of (code.OutB x to) = OutB x to
kind_of (code.KeyMask width) = KeyMask
kind_of (code.ConstMask c) = ConstMask c.word
kind_of (code.XorMask u v) = XorMask u v
kind_of (code.FlipMask u c) = FlipMask u c.word
kind_of (code.SliceMask u at width) = SliceMask u at
kind_of (code.JoinMask u v) = JoinMask u v
kind_of (code.InOnline party k at m) = InOnline party.0 k at m
kind_of (code.ShareAOnline party x m) = ShareAOnline party.0 x m
kind_of (code.ShareBOnline party x m) = ShareBOnline party.0 x m
kind_of (code.ZeroOnline width) = ZeroOnline
kind_of (code.XorOnline u v) = XorOnline u v
kind_of (code.SliceOnline u at width) = SliceOnline u at
kind_of (code.JoinOnline u v) = JoinOnline u v
kind_of (code.Garble u v m) = Garble u v m
kind_of (code.EvalY t u v) = EvalY t u v
kind_of (code.YToB m o) = YToB m o
kind_of (code.BToA x) = BToA x

-- the width that a kind states, if it states one
abbrev pub stated_width : GateKind → Option ℕ
stated_width (code.InB party k at width) = Some width
stated_width (code.ConstB c) = Some c.width
stated_width (code.XorConstB x c) = Some c.width
stated_width (code.SliceB x at width) = Some width
stated_width (code.KeyMask width) = Some width
stated_width (code.ConstMask c) = Some c.width
stated_width (code.FlipMask u c) = Some c.width
stated_width (code.SliceMask u at width) = Some width
stated_width (code.ZeroOnline width) = Some width
stated_width (code.SliceOnline u at width) = Some width
stated_width _ = None

-- what a gate gives: a word that is shared by sum, a vector that is shared by XOR, a number that is told, the mask or the
-- masked bits of a wire that is shared as keys, or a garbled table
pub data Given : Type 0 where
  Word : Given
  Vector : Given
  Told : Given
  Mask : Given
  Online : Given
  Table : Given

abbrev pub gives : Kind → Given
gives (InA party k) = Word
gives (ConstA c) = Word
gives (AddA x y) = Word
gives (SubA x y) = Word
gives (AddConstA x c) = Word
gives (MulConstA x c) = Word
gives (MulA x y) = Word
gives (OutA x to) = Told
gives (InB party k at) = Vector
gives (ConstB c) = Vector
gives (XorB x y) = Vector
gives (XorConstB x c) = Vector
gives (SliceB x at) = Vector
gives (JoinB x y) = Vector
gives (AndB x y) = Vector
gives (OutB x to) = Told
gives KeyMask = Mask
gives (ConstMask c) = Mask
gives (XorMask u v) = Mask
gives (FlipMask u c) = Mask
gives (SliceMask u at) = Mask
gives (JoinMask u v) = Mask
gives (InOnline party k at m) = Online
gives (ShareAOnline party x m) = Online
gives (ShareBOnline party x m) = Online
gives ZeroOnline = Online
gives (XorOnline u v) = Online
gives (SliceOnline u at) = Online
gives (JoinOnline u v) = Online
gives (Garble u v m) = Table
gives (EvalY t u v) = Online
gives (YToB m o) = Vector
gives (BToA x) = Word

-- whether a gate enters a party's share of a value behind a mask, or makes a word of a vector
abbrev pub is_conversion : Kind → Bool
is_conversion (ShareAOnline party x m) = true
is_conversion (ShareBOnline party x m) = true
is_conversion (BToA x) = true
is_conversion _ = false

-- whether a gate is one of those that wires shared as keys have, or that a conversion has
abbrev pub is_of_keys : Kind → Bool
is_of_keys KeyMask = true
is_of_keys (ConstMask c) = true
is_of_keys (XorMask u v) = true
is_of_keys (FlipMask u c) = true
is_of_keys (SliceMask u at) = true
is_of_keys (JoinMask u v) = true
is_of_keys (InOnline party k at m) = true
is_of_keys (ShareAOnline party x m) = true
is_of_keys (ShareBOnline party x m) = true
is_of_keys ZeroOnline = true
is_of_keys (XorOnline u v) = true
is_of_keys (SliceOnline u at) = true
is_of_keys (JoinOnline u v) = true
is_of_keys (Garble u v m) = true
is_of_keys (EvalY t u v) = true
is_of_keys (YToB m o) = true
is_of_keys (BToA x) = true
is_of_keys _ = false

-- an operand of a gate: what it is, and the number of the gate that gives it
pub record Use : Type 0 where
  pub given : Given
  pub gate : ℕ

abbrev pub word : ℕ → Use
word x = record { given = Word; gate = x }

abbrev pub vector : ℕ → Use
vector x = record { given = Vector; gate = x }

abbrev pub mask : ℕ → Use
mask x = record { given = Mask; gate = x }

abbrev pub online : ℕ → Use
online x = record { given = Online; gate = x }

abbrev pub table : ℕ → Use
table x = record { given = Table; gate = x }

-- the operands of a gate, in order
abbrev pub uses : Kind → List Use
uses (InA party k) = []
uses (ConstA c) = []
uses (AddA x y) = word x ∷ word y ∷ []
uses (SubA x y) = word x ∷ word y ∷ []
uses (AddConstA x c) = word x ∷ []
uses (MulConstA x c) = word x ∷ []
uses (MulA x y) = word x ∷ word y ∷ []
uses (OutA x to) = word x ∷ []
uses (InB party k at) = []
uses (ConstB c) = []
uses (XorB x y) = vector x ∷ vector y ∷ []
uses (XorConstB x c) = vector x ∷ []
uses (SliceB x at) = vector x ∷ []
uses (JoinB x y) = vector x ∷ vector y ∷ []
uses (AndB x y) = vector x ∷ vector y ∷ []
uses (OutB x to) = vector x ∷ []
uses KeyMask = []
uses (ConstMask c) = []
uses (XorMask u v) = mask u ∷ mask v ∷ []
uses (FlipMask u c) = mask u ∷ []
uses (SliceMask u at) = mask u ∷ []
uses (JoinMask u v) = mask u ∷ mask v ∷ []
uses (InOnline party k at m) = mask m ∷ []
uses (ShareAOnline party x m) = word x ∷ mask m ∷ []
uses (ShareBOnline party x m) = vector x ∷ mask m ∷ []
uses ZeroOnline = []
uses (XorOnline u v) = online u ∷ online v ∷ []
uses (SliceOnline u at) = online u ∷ []
uses (JoinOnline u v) = online u ∷ online v ∷ []
uses (Garble u v m) = mask u ∷ mask v ∷ mask m ∷ []
uses (EvalY t u v) = table t ∷ online u ∷ online v ∷ []
uses (YToB m o) = mask m ∷ online o ∷ []
uses (BToA x) = vector x ∷ []

-- the gates of the operands, in order
abbrev pub operands : Kind → List ℕ
operands kind = map (λ used. used.gate) (uses kind)

-- the party that a gate names: whose input or share it is, or who alone is told
abbrev pub party_of : Kind → Option ℕ
party_of (InA party k) = Some party
party_of (InB party k at) = Some party
party_of (OutA x to) = party_told to
party_of (OutB x to) = party_told to
party_of (InOnline party k at m) = Some party
party_of (ShareAOnline party x m) = Some party
party_of (ShareBOnline party x m) = Some party
party_of _ = None

-- who is told the value of a gate, if it is an output
abbrev pub receiver_of : Kind → Option Receiver
receiver_of (OutA x to) = Some to
receiver_of (OutB x to) = Some to
receiver_of _ = None

-- the number that a gate states to be used with its operand or as its value
abbrev pub constant_of : Kind → ℕ
constant_of (ConstA c) = c
constant_of (AddConstA x c) = c
constant_of (MulConstA x c) = c
constant_of (ConstB c) = c
constant_of (XorConstB x c) = c
constant_of (ConstMask c) = c
constant_of (FlipMask u c) = c
constant_of _ = 0

-- the width of the value of the gate at a place, and 0 where there is none
abbrev pub width_at : List Gate → ℕ → ℕ
width_at gates x = unwrap_or (option_map (λ gate. gate.width) (slice_get gates x)) 0

-- the width of the value of a gate's first operand, and 0 where it has none
abbrev pub width_of_operand : List Gate → Option ℕ → ℕ
width_of_operand gates None = 0
width_of_operand gates (Some x) = width_at gates x

abbrev pub low_width : List Gate → Kind → ℕ
low_width gates kind = width_of_operand gates (slice_get (operands kind) 0)
