use Rattle.std.proofs.Common.{◌<◌, ◌≤◌, List, length, subst, sym, arith}
use Rattle.std.specs.Prelude.{All}
use Rattle.std.proofs.lemmas.List.Elements.{All-from_recursion}
use Rattle.circuit_tables.specs.Table.{Told}
use Rattle.mixed_language.proofs.TableLemmas.{told_next, told_all}
use Rattle.mixed_language.proofs.WidthLemmas.{circuit_wide, told_narrow}
use Rattle.mixed_language.proofs.circuit.Mixed.tell.Goals as goal

pub push_told-requires-clause-room : goal.push_told-requires-clause-room
push_told-requires-clause-room c =
    let few = c.loop-at.invariant.few in
    let most = c.len-at-end.ensures.circuit.few in
    let count = c.len-at-end.ensures.value in
    let within = c.loop-at-test.true in
    omega arith

pub loop-at-preserved : goal.loop-at-preserved
loop-at-preserved c =
    let within : c.loop-at.at < length c.args.self.now.statements = omega arith in
    told_next c.args.values.now c.args.self.now.statements _ _ c.loop-at.at within c.in_ok-push_told.ensures.added c.in_ok-push_told.ensures.one c.loop-at.invariant

pub returns-clause-widths : goal.returns-clause-widths
returns-clause-widths c =
    let circuit = c.args.self.now in
    let values = c.args.values.now in
    let past = c.loop-at-test.false in
    let count = c.len-at-end.ensures.value in
    let all = told_all values circuit.statements c.loop-at.outputs c.loop-at.at (omega arith) c.loop-at.invariant in
    let narrow = told_narrow circuit.statements values (circuit_wide circuit c.len-at-end.ensures.circuit) circuit.statements in
    let P : List Told → Type 0 = λ outputs. All (λ t. length t.bits ≤ 64) outputs in
    subst P (sym all) (All-from_recursion (λ t. length t.bits ≤ 64) _ narrow)
