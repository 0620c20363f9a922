use Rattle.std.proofs.Common.{◌<◌, length, sym, ap, subst, refl}
use Rattle.std.proofs.lemmas.Option.{slice_get_read}
use Rattle.mixed_language.specs.Circuit.{Circuit, Statement, Shape}
use Rattle.mixed_language.specs.Valid.{AreEarlier}
use Rattle.mixed_language.proofs.CircuitLemmas.{fields}
use Rattle.mixed_language.proofs.EarlierLemmas.{circuit_earlier}
use Rattle.mixed_language.proofs.circuit.Mixed.form.Goals as goal

pub returns-clause-operands : goal.returns-clause-operands
returns-clause-operands c =
    let statements = c.self.inside.statements.items in
    let within : c.args.at < length statements = subst (λ (x : Circuit). c.args.at < length x.statements) (sym c.self.view_is) c.requires in
    let there = slice_get_read statements (length statements) c.args.at c.index.result.now refl within c.index.ensures in
    let before = circuit_earlier (fields c.self.inside.parties statements) c.args.at _ c.self.invariant refl c.index.result.now there in
    subst (λ (shape : Shape). AreEarlier c.args.at shape.operands) (sym (ap (λ (s : Statement). s.shape) c.behind-self.view_is)) before
