-- What the code sees of a form, as its shape.
use Rattle.std.specs.Prelude.{◌∷◌, [], take, option_map}
use Rattle.mixed_circuit.specs.declared.row.Row.{Row}
use Rattle.mixed_language.specs.Circuit.{Shape}
use Rattle.mixed_language.specs.Language.{arity_of}

abbrev pub row_shape : Row → Shape
row_shape row = record {
  operation = row.operation;
  sharing = row.sharing;
  operands = take (arity_of row.operation) (row.x ∷ row.y ∷ []);
  party = option_map (λ party. party.0) row.party;
  width = row.width;
  place = row.place;
  constant = row.constant;
}
