-- The inputs and the outputs of a circuit, in the order of their statements.
use Rattle.std.specs.Prelude.{ℕ, List, [], ◌∷◌, ◌++◌, slice_get, slice_index, Option, Some, None, option_map, if◌then◌else◌}
use Rattle.std.specs.Option.{unwrap_or}
use Rattle.share_types.specs.declared.receiver.Receiver.{Receiver}
use Rattle.share_types.specs.declared.receiver.Receiver.TheVariants.{All, One}
use Rattle.circuit_tables.specs.Table.{Input, Output}
use Rattle.mixed_language.specs.Language.{states, is_owner_slot, is_told_slot}
use Rattle.mixed_language.specs.Circuit.{Circuit, Statement, Shape, wire_at}
use Rattle.share_types.specs.Wires.{width_of}
use Rattle.mot_base.specs.Names.{Name}

-- the party whose input a statement is, if it is one
abbrev pub owner_of : Shape → Option ℕ
owner_of shape = if states is_owner_slot shape.operation then shape.party else None

-- the entry of an input in the table, if there is an owner
abbrev pub input_entry : Statement → Option ℕ → List Input
input_entry s None = []
input_entry s (Some party) =
    record { name = s.name; party = record { 0 = party }; width = s.shape.width } ∷ []

-- the inputs of statements, in their order
abbrev pub inputs_of : List Statement → List Input
inputs_of [] = []
inputs_of (s ∷ more) = input_entry s (owner_of s.shape) ++ inputs_of more

-- who is told an output that states this party, if it states one
abbrev pub receiver_of : Option ℕ → Receiver
receiver_of None = All
receiver_of (Some party) = One (record { 0 = party })

-- the name of the value at a place
abbrev pub name_at : List Statement → ℕ → Name
name_at statements at = unwrap_or (option_map (λ s. s.name) (slice_get statements at)) []

-- how many bits the value at a place has
abbrev pub width_at : List Statement → ℕ → ℕ
width_at statements at = unwrap_or (option_map width_of (wire_at statements at)) 0

-- the value that a statement tells, by its place
abbrev pub told_value : Statement → ℕ
told_value s = slice_index s.shape.operands 0

-- the entry of a statement in the table of a circuit's outputs, if it is one
abbrev pub output_entry : List Statement → Statement → List Output
output_entry all s =
    if states is_told_slot s.shape.operation
    then record {
      name = name_at all (told_value s);
      to = receiver_of s.shape.party;
      width = width_at all (told_value s);
    } ∷ []
    else []

-- the outputs among statements of a circuit, in their order
abbrev pub outputs_among : List Statement → List Statement → List Output
outputs_among all [] = []
outputs_among all (s ∷ more) = output_entry all s ++ outputs_among all more

abbrev pub outputs_of : Circuit → List Output
outputs_of c = outputs_among c.statements c.statements
