-- The gates of a circuit in Bristol Fashion. Each of its wires has one bit.
use Rattle.std.specs.Prelude.{ℕ, zero, suc, ◌≡◌, ◌+◌, ◌-◌, ◌*◌, ◌%◌, Bool, true, false, List, [], ◌∷◌, ◌++◌, length, map, set, sum, slice_get, slice_index, Option, Some, None, if◌then◌else◌}
use Rattle.share_types.specs.declared.sharing.Sharing.{Sharing}
use Rattle.share_types.specs.declared.sharing.Sharing.TheVariants.{Y}
use Rattle.share_types.specs.Sums.{each}
use Rattle.share_types.specs.Bits as vector
use Rattle.share_types.specs.declared.receiver.Receiver.TheVariants.{All}
use Rattle.bristol_reader.specs.declared.kind.BristolKind.{BristolKind}
use Rattle.bristol_reader.specs.declared.kind.BristolKind.TheVariants.{Xor, And, Inv, Eq, Eqw, Mand}
use Rattle.bristol_reader.specs.Circuit as bristol
use Rattle.bristol_reader.specs.Circuit.{Circuit}
use Rattle.bristol_reader.specs.Table.{HaveInputWidths}
use Rattle.bristol_reader.specs.Eval.{AreWireBits, output_bits}
use Rattle.plan_gates.specs.Gate.{Gate}
use Rattle.plan_gates.specs.Plan.{Gates, with_gates}
use Rattle.plan_gates.specs.Plain.{Outside, GateTold, told_by, plain_numbers}
use Rattle.gate_plan.specs.declared.wire.Wire.{Wire}
use Rattle.gate_plan.specs.Blocks.{Lowered, single, wire_among, entered, constant, xored, anded, flipped, told, in_row}

-- ---- how many gates there are

-- whether wires are shared as keys, and not by XOR
abbrev pub are_keys : Sharing → Bool
are_keys Y = true
are_keys _ = false

-- how many gates a gate of a circuit has, by its kind and the number of its outputs. By XOR it is one for
-- each bit that is made; as keys it is a mask and masked bits, for an AND a table too, and for an inverse a
-- mask alone. The output of an EQW is its input, by another name
abbrev pub gates_of_kind : Bool → BristolKind → ℕ → ℕ
gates_of_kind keys Eqw outs = 0
gates_of_kind keys Inv outs = 1
gates_of_kind true And outs = 3
gates_of_kind true Mand outs = 3 * outs
gates_of_kind true _ outs = 2
gates_of_kind false Mand outs = outs
gates_of_kind false _ outs = 1

-- how many gates a wire has for being an input, and how many for being an output
abbrev pub gates_of_end : Bool → ℕ
gates_of_end keys = if keys then 2 else 1

abbrev pub gates_of_gate : Bool → Option bristol.Gate → ℕ
gates_of_gate keys None = 0
gates_of_gate keys (Some g) = gates_of_kind keys g.kind (length g.outs)

-- how many gates those of a circuit before a place have together
abbrev pub bristol_gates_before : Bool → List bristol.Gate → ℕ → ℕ
bristol_gates_before keys all zero = 0
bristol_gates_before keys all (suc n) =
    bristol_gates_before keys all n + gates_of_gate keys (slice_get all n)

-- how many gates a circuit has
abbrev pub all_bristol_gates : Bool → Circuit → ℕ
all_bristol_gates keys c =
    gates_of_end keys * sum c.inputs
    + bristol_gates_before keys c.gates (length c.gates)
    + gates_of_end keys * sum c.outputs

-- ---- the gates of a circuit whose wires are shared as keys or by XOR

-- the wire of an input wire with a number
abbrev pub entry_wire : Bool → ℕ → Wire
entry_wire false w = single w
entry_wire true w = record { mask = 2 * w; gate = 2 * w + 1 }

-- the gates of so many bits of an input value of a party, of which the first has the number n
abbrev pub value_gates : Bool → ℕ → ℕ → ℕ → ℕ → List Gate
value_gates keys n party k width = in_row width (λ at. (entered keys (n + gates_of_end keys * at) 1 party k at).gates)

-- the gates of each wire of input values of these widths, of which the first has the number n, and the
-- first value the number k: it belongs to party k mod N
abbrev pub input_gates : Bool → ℕ → ℕ → ℕ → List ℕ → List Gate
input_gates keys parties n k [] = []
input_gates keys parties n k (width ∷ widths) =
    value_gates keys n (k % parties) k width
    ++ input_gates keys parties (n + gates_of_end keys * width) (k + 1) widths

-- the gates of an AND
abbrev pub gates_of_and : Bool → ℕ
gates_of_and keys = if keys then 3 else 1

-- so many ANDs, each of an input and the one so many places behind it, of which the first has the number n
abbrev pub ands_gates : Bool → (ℕ → Wire) → ℕ → ℕ → ℕ → List Gate
ands_gates keys x outs n count = in_row count (λ i. (anded keys (n + gates_of_and keys * i) 1 (x i) (x (outs + i))).gates)

-- the gates of a gate of a kind that has so many outputs, of which the first has the number n: x i is the
-- wire of its input i, and word is its first input as it stands
abbrev pub kind_gates : Bool → BristolKind → (ℕ → Wire) → ℕ → ℕ → ℕ → List Gate
kind_gates keys Xor x word outs n = (xored keys n 1 (x 0) (x 1)).gates
kind_gates keys And x word outs n = (anded keys n 1 (x 0) (x 1)).gates
kind_gates keys Inv x word outs n = (flipped keys n 1 (x 0) 1).gates
kind_gates keys Eq x word outs n = (constant keys n 1 word).gates
kind_gates keys Eqw x word outs n = []
kind_gates keys Mand x word outs n = ands_gates keys x outs n outs

-- the wire of output i of a gate, where x is that of its first input and its first gate has the number n
abbrev pub output_wire : Bool → BristolKind → Wire → ℕ → ℕ → Wire
output_wire keys Xor x n i = (xored keys n 1 x x).wire
output_wire keys And x n i = (anded keys n 1 x x).wire
output_wire keys Inv x n i = (flipped keys n 1 x 1).wire
output_wire keys Eq x n i = (constant keys n 1 0).wire
output_wire keys Eqw x n i = x
output_wire keys Mand x n i = (anded keys (n + gates_of_and keys * i) 1 x x).wire

-- the wires of all places, where those at some places are now made, by a number that rises from one
abbrev pub rewired : List Wire → List ℕ → (ℕ → Wire) → ℕ → List Wire
rewired wires [] made i = wires
rewired wires (out ∷ outs) made i = rewired (set wires out (made i)) outs made (i + 1)

-- the gates of the gate of a circuit, if there is one, and the wires behind it
abbrev pub gates_made : Bool → Lowered → Option bristol.Gate → List Gate
gates_made keys before None = []
gates_made keys before (Some g) =
    kind_gates keys g.kind (λ i. wire_among before.wires (slice_index g.ins i)) (slice_index g.ins 0)
    (length g.outs) (length before.gates)

abbrev pub wires_made : Bool → Lowered → Option bristol.Gate → List Wire
wires_made keys before None = before.wires
wires_made keys before (Some g) =
    rewired before.wires g.outs
    (output_wire keys g.kind (wire_among before.wires (slice_index g.ins 0)) (length before.gates)) 0

-- what the input wires of a circuit and its gates before a place are lowered to, with a wire for each wire
-- of the circuit
abbrev pub wired_before : Bool → ℕ → Circuit → ℕ → Lowered
wired_before keys parties c zero =
    record { gates = input_gates keys parties 0 0 c.inputs; wires = each c.wires (entry_wire keys) }
wired_before keys parties c (suc n) =
    let before : Lowered = wired_before keys parties c n in
    record {
      gates = before.gates ++ gates_made keys before (slice_get c.gates n);
      wires = wires_made keys before (slice_get c.gates n);
    }

-- the plan of the input wires and of the gates before a place
abbrev pub wired_draft : Bool → ℕ → Circuit → ℕ → Gates
wired_draft keys parties c n = record { parties = parties; gates = (wired_before keys parties c n).gates }

-- the gates of so many output wires from one on, of which the first has the number n
abbrev pub output_gates : Bool → List Wire → ℕ → ℕ → ℕ → List Gate
output_gates keys wires n from count =
    in_row count (λ j. (told keys (n + gates_of_end keys * j) 1 (wire_among wires (from + j)) All).gates)

-- the plan of a circuit among so many parties: its input wires, its gates and its output wires, which are
-- the last ones, each in order
abbrev pub bristol_lowered : Bool → ℕ → Circuit → Gates
bristol_lowered keys parties c =
    let wired : Lowered = wired_before keys parties c (length c.gates) in
    with_gates (wired_draft keys parties c (length c.gates))
    (output_gates keys wired.wires (length wired.gates) (c.wires - sum c.outputs) (sum c.outputs))

-- ---- that lowering keeps the plain evaluation

-- each of some bits, told to all
abbrev pub told_bits : List Bool → List GateTold
told_bits bits = map (λ bit. record { to = All; bits = bit ∷ [] }) bits

-- whatever comes from outside: where the inputs are the numbers of such bits, the output gates tell the
-- bits of the output wires in order
abbrev pub KeepsBristol : Circuit → Gates → Type 0
KeepsBristol c plan =
    (outside : Outside) (inputs : List (List Bool)) (bits : List Bool) →
    outside.inputs ≡ map vector.number inputs →
    HaveInputWidths c inputs → AreWireBits c inputs bits →
    told_by plan.gates (plain_numbers plan outside) ≡ told_bits (output_bits c bits)
