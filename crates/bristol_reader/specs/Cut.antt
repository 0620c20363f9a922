-- Output values, cut from the bits of the last wires one after another.
use Rattle.std.specs.Prelude.{ℕ, ◌+◌, Bool, List, [], ◌∷◌, take, drop}
use Rattle.share_types.specs.declared.receiver.Receiver.TheVariants.{All}
use Rattle.circuit_tables.specs.Table.{Told}
use Rattle.bristol_reader.specs.Table.{output_name}

-- values of these widths, the first of which stands at a place, from the bits that are left
abbrev pub cut_from : ℕ → List ℕ → List Bool → List Told
cut_from at [] bits = []
cut_from at (width ∷ widths) bits = record { name = output_name at; to = All; bits = take width bits } ∷ cut_from (at + 1) widths (drop width bits)
