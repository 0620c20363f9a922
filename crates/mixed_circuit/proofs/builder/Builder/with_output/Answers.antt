use Rattle.std.proofs.Common.{sym, ◌∙◌, ap}
use Rattle.mixed_language.specs.Circuit.{Circuit, place_of}
use Rattle.mixed_language.proofs.PlaceLemmas.{place_of-output}
use Rattle.mixed_circuit.proofs.builder.Builder.with_output.Goals as goal

pub invariant_of-result : goal.invariant_of-result
invariant_of-result c = (
  c.in_ok-circuit.ensures.circuit,
  λ name. c.self.invariant.1 name ∙ sym (ap (λ (x : Circuit). place_of x.statements name) c.in_ok-circuit.ensures.value ∙ place_of-output c.self.inside.circuit.statements _ name c.requires.no_value),
)
