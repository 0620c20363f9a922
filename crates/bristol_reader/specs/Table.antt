-- The input and the output values of a circuit, with their names.
use Rattle.std.specs.Prelude.{ℕ, ◌≡◌, ◌+◌, ◌%◌, Bool, List, [], ◌∷◌, ◌++◌, length, map, codes}
use Rattle.std.specs.Fmt.{decimal}
use Rattle.share_types.specs.declared.receiver.Receiver.TheVariants.{All}
use Rattle.circuit_tables.specs.Table.{Input, Output}
use Rattle.bristol_reader.specs.Circuit.{Circuit}
use Rattle.text_lines.specs.Text.{Text}

-- the name of the input value at a place
abbrev pub input_name : ℕ → Text
input_name at = codes "in" ++ decimal at

-- and that of the output value
abbrev pub output_name : ℕ → Text
output_name at = codes "out" ++ decimal at

-- input values of these widths, of which the first stands at a place: value i belongs to party i mod N
abbrev pub inputs_from : ℕ → ℕ → List ℕ → List Input
inputs_from parties at [] = []
inputs_from parties at (width ∷ widths) = record { name = input_name at; party = record { 0 = at % parties }; width = width } ∷ inputs_from parties (at + 1) widths

-- the input values of a circuit in order, for so many parties
abbrev pub inputs_of : ℕ → Circuit → List Input
inputs_of parties c = inputs_from parties 0 c.inputs

-- output values of these widths, of which the first stands at a place, all of them to all
abbrev pub outputs_from : ℕ → List ℕ → List Output
outputs_from at [] = []
outputs_from at (width ∷ widths) = record { name = output_name at; to = All; width = width } ∷ outputs_from (at + 1) widths

-- the output values of a circuit in order
abbrev pub outputs_of : Circuit → List Output
outputs_of c = outputs_from 0 c.outputs

-- values have the widths of a circuit's inputs
pub record HaveInputWidths (c : Circuit) (v : List (List Bool)) : Type 0 where
  pub widths : map (λ bits. length bits) v ≡ c.inputs
