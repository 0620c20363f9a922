use Rattle.std.proofs.Common.{◌∙◌, ap}
use Rattle.circuit_values.specs.Values.{Question, place_asked}
use Rattle.circuit_values.proofs.PlaceLemmas.{place_within}
use Rattle.circuit_values.proofs.asked.Asked.place.Goals as goal

pub returns-clause-within : goal.returns-clause-within
returns-clause-within c = place_within c.args.self.now.owner c.args.self.now.inputs c.args.name.now c.copied.result (c.copied.ensures ∙ c.get.ensures.value ∙ c.self.invariant c.args.name.now ∙ ap (λ (q : Question). place_asked q.owner q.inputs c.args.name.now) c.self.view_is)
