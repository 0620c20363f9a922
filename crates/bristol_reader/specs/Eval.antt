-- The plain evaluation of a circuit: a bit for each wire.
use Rattle.std.specs.Prelude.{ℕ, ◌≡◌, ◌<◌, ◌-◌, ◌==◌, Bool, false, List, length, take, drop, slice_get, slice_index, slice_index_or, sum, Some, if◌then◌else◌}
use Rattle.std.specs.List.{flat_map}
use Rattle.circuit_tables.specs.Table.{Told, AreCut}
use Rattle.bristol_reader.specs.Kinds.{is_constant, output_bit}
use Rattle.bristol_reader.specs.Circuit.{Gate, Circuit}
use Rattle.bristol_reader.specs.Built.{IsCircuit}
use Rattle.bristol_reader.specs.Table.{HaveInputWidths, outputs_of}

-- the bit of a wire
abbrev pub bit_at : List Bool → ℕ → Bool
bit_at bits w = slice_index_or bits w false

-- the bit of an input of a gate: that of its wire, or the constant itself
abbrev pub input_bit : List Bool → Gate → ℕ → Bool
input_bit bits g k = if is_constant g.kind then slice_index g.ins k == 1 else bit_at bits (slice_index g.ins k)

-- each output wire of a gate has the bit that the gate's kind makes of the bits of its inputs
pub record IsMet (bits : List Bool) (g : Gate) : Type 0 where
  pub each : (i : ℕ) → i < length g.outs → bit_at bits (slice_index g.outs i) ≡ output_bit g.kind (input_bit bits g) (length g.outs) i

-- bits are those of a circuit's wires, for the bits of its input values: one for each wire, the first wires have the
-- bits of the inputs in order, and each gate is met. So bit 0 of a value is its first wire
pub record AreWireBits (c : Circuit) (inputs : List (List Bool)) (bits : List Bool) : Type 0 where
  pub count : length bits ≡ c.wires
  pub given : take (sum c.inputs) bits ≡ flat_map (λ v. v) inputs
  pub each : (at : ℕ) (g : Gate) → slice_get c.gates at ≡ Some g → IsMet bits g

-- the bits of the outputs, which are the last wires
abbrev pub output_bits : Circuit → List Bool → List Bool
output_bits c bits = drop (c.wires - sum c.outputs) bits

-- outputs are those of the plain evaluation of a circuit on the bits of its input values: the last wires in order
pub record IsPlain (c : Circuit) (inputs : List (List Bool)) (outputs : List Told) : Type 0 where
  pub bits : List Bool
  pub wires : AreWireBits c inputs bits
  pub told : AreCut (outputs_of c) (output_bits c bits) outputs

-- the bits of the outputs are the same whatever the bits of the wires that no gate sets
abbrev pub EvaluatesOnce : Type 0
EvaluatesOnce = (c : Circuit) (inputs : List (List Bool)) (bits others : List Bool) → IsCircuit c → AreWireBits c inputs bits → AreWireBits c inputs others → output_bits c bits ≡ output_bits c others

-- each circuit has a plain evaluation on values of its inputs
abbrev pub EachEvaluates : Type 0
EachEvaluates =
    (c : Circuit) (inputs : List (List Bool)) → IsCircuit c → HaveInputWidths c inputs →
    (outputs : List Told) × IsPlain c inputs outputs
