use Rattle.std.proofs.Common.{◌≡◌, ◌+◌, ◌++◌, ◌∷◌, [], List, length, take, sym, ◌∙◌, ap, subst, arith}
use Rattle.mixed_language.specs.Circuit.{shape_of}
use Rattle.mixed_language.specs.Table.{inputs_of}
use Rattle.mixed_language.specs.Eval.{inputs_taken}
use Rattle.mixed_language.proofs.EvalLemmas.{some_statement, inputs_next}
use Rattle.plan_gates.specs.Plan.{Gates, IsPlan}
use Rattle.gate_plan.specs.declared.wire.Wire.{Wire}
use Rattle.gate_plan.specs.Lowering.{draft_to, lowered, all_gates}
use Rattle.gate_plan.specs.Keeps.{KeepsEvaluation}
use Rattle.gate_plan.proofs.PlanLemmas.{count}
use Rattle.gate_plan.proofs.ValidLemmas.{lowered_is_plan}
use Rattle.gate_plan.proofs.KeepsLemmas.{keeps_evaluation}
use Rattle.gate_plan.proofs.StatementLemmas.{if_ok}
use Rattle.gate_plan.proofs.lower.lower_few.Goals as goal

pub of-requires : goal.of-requires
of-requires c =
    let circuit = c.args.circuit.now in
    let past = c.loop-at-test.false in
    let end = c.loop-at.auto.at-end in
    let len = c.len-at-end.ensures.value in
    let all : c.loop-at.at ≡ length circuit.statements = omega arith in
    let whole : c.loop-at.draft ≡ lowered circuit = c.loop-at.invariant.0 ∙ ap (draft_to circuit) all in
    subst IsPlan (sym whole)
    (lowered_is_plan circuit c.len-at-end.ensures.circuit c.requires.few)

pub loop-at-preserved : goal.loop-at-preserved
loop-at-preserved c =
    let statements = c.args.circuit.now.statements in
    let at = c.loop-at.at in
    let before = c.loop-at.invariant in
    let here = some_statement statements at (shape_of c.form.result) c.form.ensures.value in
    let taken = inputs_next statements at here.0 here.1 in
    let one = ap inputs_taken here.2 in
    let own = c.inputs_taken-inputs.ensures.value in
    let most = c.inputs_taken-inputs.ensures.most in
    let known = before.2 in
    let few = before.3 in
    let all : c.loop-at.inputs + c.inputs_taken-inputs.result ≡ length
    (inputs_of (take (at + 1) statements)) = omega arith in (
      c.in_ok-wire.ensures.next,
      c.in_ok-push.ensures.items
          ∙ (ap (λ (ws : List Wire). ws ++ c.in_ok-wire.wire ∷ []) (sym c.deref.ensures.value)
          ∙ c.in_ok-wire.ensures.given),
      all,
      omega arith,
    )

pub returns-clause-count : goal.returns-clause-count
returns-clause-count c =
    let circuit = c.args.circuit.now in
    let past = c.loop-at-test.false in
    let end = c.loop-at.auto.at-end in
    let len = c.len-at-end.ensures.value in
    let all : c.loop-at.at ≡ length circuit.statements = omega arith in
    let whole : c.loop-at.draft ≡ lowered circuit = c.loop-at.invariant.0 ∙ ap (draft_to circuit) all in
    let Q : Gates → Type 0 = λ plan. length plan.gates ≡ all_gates circuit in
    if_ok c.of.result (λ plan. plan ≡ c.loop-at.draft) Q
    (λ plan is. subst Q (sym (is ∙ whole))
    (count circuit (length circuit.statements) (omega arith))) c.of.ensures

pub returns-clause-keeps : goal.returns-clause-keeps
returns-clause-keeps c =
    let circuit = c.args.circuit.now in
    let past = c.loop-at-test.false in
    let end = c.loop-at.auto.at-end in
    let len = c.len-at-end.ensures.value in
    let all : c.loop-at.at ≡ length circuit.statements = omega arith in
    let whole : c.loop-at.draft ≡ lowered circuit = c.loop-at.invariant.0 ∙ ap (draft_to circuit) all in
    let Q : Gates → Type 0 = λ plan. KeepsEvaluation circuit plan in
    if_ok c.of.result (λ plan. plan ≡ c.loop-at.draft) Q
    (λ plan is. subst Q (sym (is ∙ whole))
    (keeps_evaluation circuit c.len-at-end.ensures.circuit c.requires.few)) c.of.ensures
