use Rattle.std.proofs.Common.{ap, ◌≡◌, ◌+◌, length, take, Some, arith}
use Rattle.std.specs.Prelude.{slice_get}
use Rattle.mixed_language.specs.Circuit.{Statement, shape_of}
use Rattle.mixed_language.specs.Table.{inputs_of}
use Rattle.mixed_language.specs.Eval.{value_of_statement, inputs_taken}
use Rattle.mixed_language.proofs.EvalLemmas.{some_statement, of_statement, evaluated_next, evaluated_all, inputs_next}
use Rattle.mixed_language.proofs.evaluate.values_of.Goals as goal

pub loop-at-preserved : goal.loop-at-preserved
loop-at-preserved c =
    let statements = c.args.circuit.now.statements in
    let at = c.loop-at.at in
    let kept = c.loop-at.invariant in
    let here = some_statement statements at (shape_of c.form.result) c.form.ensures.value in
    let value = rw (c.number_at-input.ensures, c.as_slice.ensures.value, kept.1) at c.value_of-value.ensures in
    let is : (s : Statement) → slice_get statements at ≡ Some s →
    c.value_of-value.result ≡ value_of_statement statements c.args.inputs.now c.loop-at.values.items at s =
    λ s there. of_statement (slice_get statements at)
    (λ t. c.value_of-value.result ≡ value_of_statement statements c.args.inputs.now c.loop-at.values.items at t) s there value in
    let next = evaluated_next statements c.args.inputs.now c.loop-at.values.items at c.value_of-value.result kept.0 is in
    let taken = inputs_next statements at here.0 here.1 in
    let one = ap inputs_taken here.2 in
    let count = c.inputs_taken-taken.ensures.value in
    let most = c.inputs_taken-taken.ensures.most in
    let before = kept.1 in
    let few = kept.2 in
    let all : c.loop-at.taken + c.inputs_taken-taken.result ≡ length (inputs_of (take (at + 1) statements)) = omega arith in
    (rw c.in_ok-push.ensures.items next, all, omega arith)

pub returns : goal.returns
returns c =
    let past = c.loop-at-test.false in
    let to_end = c.loop-at.auto.at-end in
    let count = c.len-at-end.ensures.value in
    evaluated_all c.args.circuit.now.statements c.args.inputs.now c.loop-at.values.items c.loop-at.at (omega arith) c.loop-at.invariant.0
