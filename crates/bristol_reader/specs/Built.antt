-- What is read of a circuit before all of it is.
use Rattle.std.specs.Prelude.{ℕ, ◌≡◌, ◌<◌, ◌≤◌, Bool, true, false, nat_le, List, length, take, slice_get, slice_index_or, sum, Some}
use Rattle.std.specs.List.{list_all}
use Rattle.mot_base.specs.Limits.{most_statements, most_wires}
use Rattle.bristol_reader.specs.Kinds.{is_arity}
use Rattle.bristol_reader.specs.Circuit.{Gate, Circuit, is_set, are_outputs_set}
use Rattle.bristol_reader.specs.Line.{is_in_range, are_ins_set, are_outs_new}

-- each width is at least 1
abbrev pub are_positive : List ℕ → Bool
are_positive widths = list_all (λ width. nat_le 1 width) widths

-- a gate fits behind the gates of a circuit: it has as many inputs and outputs as its kind, its wires are the circuit's,
-- its inputs are set, and its outputs are not, and are apart
pub record FitsBehind (c : Circuit) (g : Gate) : Type 0 where
  pub arity : is_arity g.kind (length g.ins) (length g.outs) ≡ true
  pub range : is_in_range c.wires g ≡ true
  pub used : are_ins_set c g ≡ true
  pub once : are_outs_new c g.outs ≡ true

-- the circuit of the first gates
abbrev pub first_gates : ℕ → Circuit → Circuit
first_gates at c = record c { gates = take at c.gates }

-- the headers of a circuit are in order, and each gate fits behind those before it
pub record IsBuilt (c : Circuit) : Type 0 where
  pub few_gates : length c.gates ≤ most_statements
  pub few_wires : c.wires ≤ most_wires
  pub input_widths : are_positive c.inputs ≡ true
  pub few_inputs : sum c.inputs ≤ c.wires
  pub output_widths : are_positive c.outputs ≡ true
  pub few_outputs : sum c.outputs ≤ c.wires
  pub each : (at : ℕ) (g : Gate) → slice_get c.gates at ≡ Some g → FitsBehind (first_gates at c) g

-- such a circuit, each output wire of which is an input or set
pub record IsCircuit (c : Circuit) : Type 0 where
  pub built : IsBuilt c
  pub set : are_outputs_set c ≡ true

-- what a builder keeps: fewer gates than are stated or as many, and for each wire whether it is an input or set
pub record IsKept (stated : ℕ) (c : Circuit) (told : List Bool) : Type 0 where
  pub built : IsBuilt c
  pub some_left : length c.gates ≤ stated
  pub few : stated ≤ most_statements
  pub count : length told ≡ c.wires
  pub tells : (w : ℕ) → w < c.wires → slice_index_or told w false ≡ is_set c w
