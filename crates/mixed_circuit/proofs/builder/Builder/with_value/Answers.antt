use Rattle.std.proofs.Common.{ℕ, ◌≡◌, sym, ◌∙◌, ap, cond, Some, Option, subst}
use Rattle.std.specs.Str.{bytes_eq}
use Rattle.mixed_language.specs.Circuit.{Circuit, Statement, place_of}
use Rattle.mixed_circuit.specs.Names.{place_in}
use Rattle.mixed_language.specs.Valid.{IsStatement}
use Rattle.mixed_circuit.proofs.NameLemmas.{place_of-with_value}
use Rattle.text_lines.specs.Text.{Text}
use Rattle.mixed_circuit.proofs.builder.Builder.with_value.Goals as goal

pub invariant_of-result : goal.invariant_of-result
invariant_of-result c =
    let before = c.self.inside.circuit in
    let said = subst (λ (x : Circuit). IsStatement x.parties x.statements c.args.said) (sym c.self.view_is) c.requires.statement in
    let key : _ ≡ c.args.said.name = ap (λ (s : Statement). s.name) c.said.view_is in (
      c.in_ok-circuit.ensures.circuit,
      λ other.
          c.in_ok-places.ensures other
          ∙ ap (λ (text : Text). cond (bytes_eq text other) (Some c.len.result) (place_in c.self.inside.places other)) key
          ∙ ap (λ (found : Option ℕ). cond (bytes_eq c.args.said.name other) (Some c.len.result) found) (c.self.invariant.1 other)
          ∙ ap (λ (n : ℕ). cond (bytes_eq c.args.said.name other) (Some n) (place_of before.statements other)) c.len.ensures.value
          ∙ sym (ap (λ (x : Circuit). place_of x.statements other) c.in_ok-circuit.ensures.value ∙ place_of-with_value before c.args.said other said c.requires.value),
    )
