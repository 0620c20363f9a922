-- Circuits in Bristol Fashion: wires, of which the first are the inputs and the last the outputs, and gates in order.
use Rattle.std.specs.Prelude.{ℕ, ◌-◌, ◌==◌, Bool, true, not, ◌&&◌, ◌||◌, nat_lt, List, [], ◌∷◌, ◌++◌, sum}
use Rattle.std.specs.List.{list_any, list_all, range_with_len}
use Rattle.bristol_reader.specs.declared.kind.BristolKind.{BristolKind}

-- a gate: its kind, the wires of its inputs (of EQ the constant), and those of its outputs
pub record Gate : Type 0 where
  pub kind : BristolKind
  pub ins : List ℕ
  pub outs : List ℕ

-- a circuit: the number of its wires, how many wires each input and each output value has, and its gates
pub record Circuit : Type 0 where
  pub wires : ℕ
  pub inputs : List ℕ
  pub outputs : List ℕ
  pub gates : List Gate

-- whether a wire is among some
abbrev pub is_among : List ℕ → ℕ → Bool
is_among ws w = list_any (λ x. x == w) ws

-- whether one of some gates sets a wire
abbrev pub is_set_by : List Gate → ℕ → Bool
is_set_by gates w = list_any (λ g. is_among g.outs w) gates

-- whether a wire is one of the inputs, which are the first wires, or a gate sets it
unfoldable pub is_set : Circuit → ℕ → Bool
is_set c w = nat_lt w (sum c.inputs) || is_set_by c.gates w

-- whether no wire stands twice
abbrev pub are_apart : List ℕ → Bool
are_apart [] = true
are_apart (w ∷ ws) = not (is_among ws w) && are_apart ws

-- the wires of the outputs, which are the last wires
abbrev pub output_wires : Circuit → List ℕ
output_wires c = range_with_len (c.wires - sum c.outputs) (sum c.outputs)

-- whether each output wire is an input or set
unfoldable pub are_outputs_set : Circuit → Bool
are_outputs_set c = list_all (is_set c) (output_wires c)

-- the circuit with one gate more
abbrev pub with_gate : Circuit → Gate → Circuit
with_gate c g = record c { gates = c.gates ++ g ∷ [] }

-- ---- what is read of a circuit before all of it is

-- what the first header line states: how many gates and how many wires
pub record Sizes : Type 0 where
  pub gates : ℕ
  pub wires : ℕ

-- what the first two header lines state
pub record Heading : Type 0 where
  pub sizes : Sizes
  pub inputs : List ℕ

-- a circuit of the gates so far, and how many gates are stated
pub record Progress : Type 0 where
  pub stated : ℕ
  pub circuit : Circuit

-- the circuit of no gate
abbrev pub no_gates : Heading → List ℕ → Progress
no_gates h outputs = record { stated = h.sizes.gates; circuit = record { wires = h.sizes.wires; inputs = h.inputs; outputs = outputs; gates = [] } }

-- the circuit with one gate more
abbrev pub more_gates : Progress → Gate → Progress
more_gates p g = record p { circuit = with_gate p.circuit g }
