use Rattle.std.proofs.Common.{List, None, ◌≡◌, sym, ◌∙◌, ap, subst}
use Rattle.plan_gates.specs.Messages.{awaits}
use Rattle.joint_run.specs.Party.{Payload}
use Rattle.gate_tasks.specs.Stage.{AreOperands, AreAwaited}
use Rattle.gate_tasks.specs.Task.{lacking, HoldTypes, ExpectsAll, Task, payloads_at}
use Rattle.gate_tasks.specs.declared.value.Value.{Value as ValueInMemory}
use Rattle.gate_tasks.proofs.Waiting.{all_operands, all_awaited, lacks_none}
use Rattle.gate_tasks.proofs.task.GateTask.run.Goals as goal

pub run_stage-requires-clause-wires : goal.run_stage-requires-clause-wires
run_stage-requires-clause-wires c =
    let env = c.args.env.now in
    let g = c.self.inside.gate in
    let types : HoldTypes env.plan.now g env.wires.now = subst (λ (t : Task). HoldTypes env.plan.now t.gate env.wires.now) (sym c.self.view_is) c.requires.wires in
    let all = subst (λ (t : Task). lacking env t.gate t.stage ≡ None) (sym c.self.view_is) c.requires.all in
    subst (λ (ws : List ValueInMemory). AreOperands env.plan.now g ws) (sym (c.deref.ensures.value ∙ c.in_ok-wires.ensures))
    (all_operands env.plan.now g env.wires.now types (lacks_none env g c.self.inside.stage all).0)

pub run_stage-requires-clause-payloads : goal.run_stage-requires-clause-payloads
run_stage-requires-clause-payloads c =
    let env = c.args.env.now in
    let plan = env.plan.now in
    let me = env.own.now.me.0 in
    let g = c.self.inside.gate in
    let round = awaits plan me g c.self.inside.stage in
    let expects : ExpectsAll plan me g env.inbox.now = subst (λ (t : Task). ExpectsAll plan me t.gate env.inbox.now) (sym c.self.view_is) c.requires.inbox in
    let all = subst (λ (t : Task). lacking env t.gate t.stage ≡ None) (sym c.self.view_is) c.requires.all in
    let is : c.awaits-round.result ≡ round = c.awaits-round.ensures in
    subst (λ (ps : List Payload). AreAwaited plan me g round ps)
    (sym (c.deref-2.ensures.value ∙ (c.in_ok-payloads.ensures.payloads ∙ ap (payloads_at plan me env.inbox.now g) is)))
    (all_awaited plan me g env.inbox.now round expects (λ r e. c.in_ok-payloads.ensures.fit r (is ∙ e)) (lacks_none env g c.self.inside.stage all).1)
