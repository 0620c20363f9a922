use Rattle.std.proofs.Common.{List, Bool, Option, rules, ◌∙◌, ap, subst, map, [], Vec, Global, ◌≡◌}
use Rattle.std.specs.Prelude.{option_map, IfOk}
use Rattle.std.specs.Option.{unwrap_or}
use Rattle.std.proofs.lemmas.Iterator.{YieldsList-from_map_by}
use Rattle.std.proofs.lemmas.Iterator.Consumers.{map_from_collect, YieldsList-at}
use Rattle.std.proofs.lemmas.Iterator.Adapters.{YieldsList-from_vec}
use Rattle.circuit_tables.proofs.ListLemmas.{map_twice}
use Rattle.circuit_values.proofs.given.Given.all.Goals as goal

abbrev pub bits_of : Option (Vec Bool Global) → List Bool
bits_of o = unwrap_or (option_map (λ (b : Vec Bool Global). b.items) o) []

pub returns : goal.returns
returns c =
    let P : List (List Bool) → Type 0 = λ all. IfOk c.collect.result (λ w. map (λ (b : Vec Bool Global). b.items) w.items ≡ all) in
    subst P
    (map_twice (λ (o : Option (List Bool)). unwrap_or o []) (λ (o : Option (Vec Bool Global)). option_map (λ (b : Vec Bool Global). b.items) o) c.self.inside.bits.items ∙ ap (λ (g : List (Option (List Bool))). map (λ (o : Option (List Bool)). unwrap_or o []) g) c.self.view_is)
    (map_from_collect {v = λ (b : Vec Bool Global). b.items} _ c.collect.ensures.ran (YieldsList-from_map_by _ (λ (b : Vec Bool Global). b.items) bits_of (YieldsList-at c.map.ensures.source (YieldsList-from_vec c.self.inside.bits.items c.into_iter.ensures.rest (c.into_iter.ensures.len ∙ c.self.inside.bits.ok.0))) c.map.ensures.closure (λ x r q k. search rules)))
