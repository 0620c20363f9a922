use Rattle.std.proofs.Common.{◌≡◌, ◌-◌, List, length, sym, ◌∙◌, ap, ap₂, subst, arith}
use Rattle.std.specs.Prelude.{sum}
use Rattle.plan_gates.specs.Plan.{Gates, IsPlan, with_gates}
use Rattle.gate_plan.specs.declared.wire.Wire.{Wire}
use Rattle.gate_plan.specs.Bristol.{KeepsBristol, all_bristol_gates, wired_before, wired_draft, output_gates, bristol_lowered}
use Rattle.gate_plan.proofs.StatementLemmas.{if_ok}
use Rattle.gate_plan.proofs.BristolPlanLemmas.{length_lowered}
use Rattle.gate_plan.proofs.BristolValidLemmas.{bristol_is_plan}
use Rattle.gate_plan.proofs.BristolKeepsLemmas.{keeps_bristol}
use Rattle.gate_plan.proofs.BristolCodeLemmas.{all_room}
use Rattle.gate_plan.proofs.expand.lower_wires.Goals as goal

pub push_outputs-requires-clause-room : goal.push_outputs-requires-clause-room
push_outputs-requires-clause-room c =
    let circuit = c.args.circuit.now in
    let past = c.loop-at-test.false in
    let end = c.loop-at.auto.at-end in
    let len = c.len-at-end.ensures.value in
    let all : c.loop-at.at ≡ length circuit.gates = omega arith in
    let draft : c.loop-at.draft ≡ wired_draft c.args.keys c.args.parties circuit (length circuit.gates) =
    c.loop-at.invariant.0 ∙ ap (wired_draft c.args.keys c.args.parties circuit) all in
    all_room c.args.keys c.args.parties circuit c.loop-at.draft c.requires.few draft

pub of-requires : goal.of-requires
of-requires c =
    let circuit = c.args.circuit.now in
    let past = c.loop-at-test.false in
    let end = c.loop-at.auto.at-end in
    let len = c.len-at-end.ensures.value in
    let all : c.loop-at.at ≡ length circuit.gates = omega arith in
    let draft : c.loop-at.draft ≡ wired_draft c.args.keys c.args.parties circuit (length circuit.gates) =
    c.loop-at.invariant.0 ∙ ap (wired_draft c.args.keys c.args.parties circuit) all in
    let wires : c.deref.result.now ≡ (wired_before c.args.keys c.args.parties circuit (length circuit.gates)).wires =
    c.deref.ensures.value
    ∙ (c.loop-at.invariant.1 ∙ ap (λ k. (wired_before c.args.keys c.args.parties circuit k).wires) all) in
    let whole : c.push_outputs.new.draft ≡ bristol_lowered c.args.keys c.args.parties circuit =
    c.in_ok-push_outputs.ensures
    ∙ ap₂ (λ (p : Gates) (ws : List Wire). with_gates p
    (output_gates c.args.keys ws (length p.gates) (circuit.wires - sum circuit.outputs) (sum circuit.outputs))) draft wires
    in
    subst IsPlan (sym whole)
    (bristol_is_plan c.args.keys c.args.parties circuit c.len-at-end.ensures.circuit c.requires.some c.requires.most
    c.requires.few)

pub returns-clause-plan : goal.returns-clause-plan
returns-clause-plan c =
    let circuit = c.args.circuit.now in
    let past = c.loop-at-test.false in
    let end = c.loop-at.auto.at-end in
    let len = c.len-at-end.ensures.value in
    let all : c.loop-at.at ≡ length circuit.gates = omega arith in
    let draft : c.loop-at.draft ≡ wired_draft c.args.keys c.args.parties circuit (length circuit.gates) =
    c.loop-at.invariant.0 ∙ ap (wired_draft c.args.keys c.args.parties circuit) all in
    let wires : c.deref.result.now ≡ (wired_before c.args.keys c.args.parties circuit (length circuit.gates)).wires =
    c.deref.ensures.value
    ∙ (c.loop-at.invariant.1 ∙ ap (λ k. (wired_before c.args.keys c.args.parties circuit k).wires) all) in
    let whole : c.push_outputs.new.draft ≡ bristol_lowered c.args.keys c.args.parties circuit =
    c.in_ok-push_outputs.ensures
    ∙ ap₂ (λ (p : Gates) (ws : List Wire). with_gates p
    (output_gates c.args.keys ws (length p.gates) (circuit.wires - sum circuit.outputs) (sum circuit.outputs))) draft wires
    in
    if_ok c.of.result (λ plan. plan ≡ c.push_outputs.new.draft)
    (λ plan. plan ≡ bristol_lowered c.args.keys c.args.parties circuit)
    (λ plan is. is ∙ whole) c.of.ensures

pub returns-clause-count : goal.returns-clause-count
returns-clause-count c =
    let circuit = c.args.circuit.now in
    let past = c.loop-at-test.false in
    let end = c.loop-at.auto.at-end in
    let len = c.len-at-end.ensures.value in
    let all : c.loop-at.at ≡ length circuit.gates = omega arith in
    let draft : c.loop-at.draft ≡ wired_draft c.args.keys c.args.parties circuit (length circuit.gates) =
    c.loop-at.invariant.0 ∙ ap (wired_draft c.args.keys c.args.parties circuit) all in
    let wires : c.deref.result.now ≡ (wired_before c.args.keys c.args.parties circuit (length circuit.gates)).wires =
    c.deref.ensures.value
    ∙ (c.loop-at.invariant.1 ∙ ap (λ k. (wired_before c.args.keys c.args.parties circuit k).wires) all) in
    let whole : c.push_outputs.new.draft ≡ bristol_lowered c.args.keys c.args.parties circuit =
    c.in_ok-push_outputs.ensures
    ∙ ap₂ (λ (p : Gates) (ws : List Wire). with_gates p
    (output_gates c.args.keys ws (length p.gates) (circuit.wires - sum circuit.outputs) (sum circuit.outputs))) draft wires
    in
    let Q : Gates → Type 0 = λ plan. length plan.gates ≡ all_bristol_gates c.args.keys circuit in
    if_ok c.of.result (λ plan. plan ≡ c.push_outputs.new.draft) Q
    (λ plan is. subst Q (sym (is ∙ whole)) (length_lowered c.args.keys c.args.parties circuit)) c.of.ensures

pub returns-clause-keeps : goal.returns-clause-keeps
returns-clause-keeps c =
    let circuit = c.args.circuit.now in
    let past = c.loop-at-test.false in
    let end = c.loop-at.auto.at-end in
    let len = c.len-at-end.ensures.value in
    let all : c.loop-at.at ≡ length circuit.gates = omega arith in
    let draft : c.loop-at.draft ≡ wired_draft c.args.keys c.args.parties circuit (length circuit.gates) =
    c.loop-at.invariant.0 ∙ ap (wired_draft c.args.keys c.args.parties circuit) all in
    let wires : c.deref.result.now ≡ (wired_before c.args.keys c.args.parties circuit (length circuit.gates)).wires =
    c.deref.ensures.value
    ∙ (c.loop-at.invariant.1 ∙ ap (λ k. (wired_before c.args.keys c.args.parties circuit k).wires) all) in
    let whole : c.push_outputs.new.draft ≡ bristol_lowered c.args.keys c.args.parties circuit =
    c.in_ok-push_outputs.ensures
    ∙ ap₂ (λ (p : Gates) (ws : List Wire). with_gates p
    (output_gates c.args.keys ws (length p.gates) (circuit.wires - sum circuit.outputs) (sum circuit.outputs))) draft wires
    in
    let Q : Gates → Type 0 = λ plan. KeepsBristol circuit plan in
    if_ok c.of.result (λ plan. plan ≡ c.push_outputs.new.draft) Q
    (λ plan is. subst Q (sym (is ∙ whole))
    (keeps_bristol c.args.keys c.args.parties circuit c.len-at-end.ensures.circuit c.requires.some c.requires.most
    c.requires.few))
    c.of.ensures
