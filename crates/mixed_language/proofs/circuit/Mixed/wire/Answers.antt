use Rattle.std.proofs.Common.{subst}
use Rattle.mixed_language.specs.Circuit.{Circuit}
use Rattle.mixed_language.specs.Wide.{AllWide}
use Rattle.mixed_language.proofs.WidthLemmas.{circuit_wide}
use Rattle.mixed_language.proofs.circuit.Mixed.wire.Goals as goal

pub returns-clause-wide : goal.returns-clause-wide
returns-clause-wide c =
    let wide : Circuit → Type 0 = λ circuit. AllWide circuit.statements in
    subst wide c.self.view_is (circuit_wide _ c.self.invariant)
