use Rattle.std.proofs.Common.{◌∙◌, ap}
use Rattle.mixed_circuit.specs.Names.{place_in}
use Rattle.mixed_circuit.proofs.FoundLemmas.{found}
use Rattle.mixed_circuit.proofs.names.Places.get.Goals as goal

pub returns : goal.returns
returns c = c.copied.ensures ∙ c.get.ensures.value ∙ found c.self.inside.places c.args.name.now ∙ ap (λ places. place_in places c.args.name.now) c.self.view_is
