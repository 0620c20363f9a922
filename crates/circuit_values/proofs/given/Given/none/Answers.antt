use Rattle.std.proofs.Common.{◌∙◌, ap, map, None, Option, List, Bool, Vec, Global, replicate, ◌≡◌, arith}
use Rattle.std.specs.Prelude.{option_map}
use Rattle.circuit_tables.proofs.ListLemmas.{map_same}
use Rattle.circuit_values.proofs.given.Given.none.Goals as goal

pub returns : goal.returns
returns c =
    let view : Option (Vec Bool Global) → Option (List Bool) = λ o. option_map (λ (b : Vec Bool Global). b.items) o in
    let count : c.loop-i._i ≡ c.args.count = omega arith in
    ap (λ (xs : List (Option (Vec Bool Global))). map view xs) c.loop-i.invariant ∙ map_same view c.loop-i._i None ∙ ap (λ n. replicate n None) count
