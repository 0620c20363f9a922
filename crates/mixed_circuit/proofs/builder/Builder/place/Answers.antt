use Rattle.std.proofs.Common.{sym, ◌∙◌, subst}
use Rattle.std.proofs.lemmas.Bool.{false≢true}
use Rattle.mixed_language.specs.Valid.{IsCircuit}
use Rattle.mixed_circuit.proofs.NameLemmas.{place_of-none}
use Rattle.mixed_circuit.proofs.builder.Builder.place.Goals as goal

pub returns-in_err-name : goal.returns-in_err-name
returns-in_err-name c =
    let circuit : IsCircuit c.args.self.now = subst (λ x. IsCircuit x) c.self.view_is c.self.invariant.0 in
    c.from_residual.ensures ∙ sym (place_of-none c.args.self.now c.args.word.now circuit (λ ascii. false≢true (c.in_err-name.ensures.found ascii)))
