use Rattle.std.proofs.Common.{◌≤◌, List, subst, sym}
use Rattle.std.specs.Prelude.{All}
use Rattle.std.proofs.lemmas.Result.{IfOk-weaker}
use Rattle.mot_base.specs.Limits.{most_width}
use Rattle.circuit_tables.specs.Table.{Output}
use Rattle.any_circuit.proofs.CircuitLemmas.{mixed_narrow}
use Rattle.any_circuit.proofs.circuit.mixed_outputs.Goals as goal

pub returns-clause-narrow : goal.returns-clause-narrow
returns-clause-narrow c =
    let whole = c.len-statements.ensures.circuit in
    let Narrow : List Output → Type 0 = λ os. All (λ o. o.width ≤ most_width) os in
    IfOk-weaker c.outputs.result _ _ (λ table is. subst Narrow (sym is) (mixed_narrow c.args.circuit.now whole)) c.outputs.ensures
