use Rattle.std.proofs.Common.{List, Bool, Option, Some, ◌∙◌, ap, Vec, Global}
use Rattle.std.specs.Prelude.{option_map, slice_set}
use Rattle.std.proofs.lemmas.List.{map-set}
use Rattle.circuit_values.proofs.given.Given.with.Goals as goal

pub returns : goal.returns
returns c = map-set (λ (o : Option (Vec Bool Global)). option_map (λ (b : Vec Bool Global). b.items) o) c.self.inside.bits.items c.args.at (Some c.args.bits) ∙ ap (λ (g : List (Option (List Bool))). slice_set g c.args.at (Some c.args.bits.items)) c.self.view_is
