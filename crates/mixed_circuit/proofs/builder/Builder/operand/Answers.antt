use Rattle.std.proofs.Common.{sym, ◌∙◌, subst, ◌<◌, length}
use Rattle.mixed_language.specs.Circuit.{Circuit}
use Rattle.mixed_language.proofs.PlaceLemmas.{place_of-within}
use Rattle.mixed_circuit.proofs.builder.Builder.operand.Goals as goal

pub wire-requires : goal.wire-requires
wire-requires c = subst (λ (x : Circuit). c.in_ok-at.at < length x.statements) (sym c.self.view_is) (place_of-within c.args.self.now.statements c.args.word.now c.in_ok-at.at (sym c.place.ensures ∙ c.in_ok-at.was))
