use Rattle.std.proofs.Common.{◌≡◌, ◌<◌, length, sym, subst}
use Rattle.gate_tasks.proofs.Serving.{serves}
use Rattle.party_stages.specs.Following.{Side, me_of, IsRan}
use Rattle.party_stages.specs.Scene.{IsScene, IsReady}
use Rattle.party_stages.proofs.Held.{ran_is}
use Rattle.party_stages.proofs.Next.{next_is}
use Rattle.party_stages.proofs.scene.run_one.Goals as goal

pub run-requires-clause-serves : goal.run-requires-clause-serves
run-requires-clause-serves c =
    let b : Side = record { plan = c.brought.inside.plan.now; own = c.brought.inside.own.now; part = c.brought.inside.part.now } in
    let p = c.args.stages.now in
    let scene : IsScene b c.args.inbox.now p = subst (λ (s : Side). IsScene s c.args.inbox.now p) (sym c.brought.view_is) c.requires.scene in
    let ready : IsReady b c.args.inbox.now p c.args.gate = subst (λ (s : Side). IsReady s c.args.inbox.now p c.args.gate) (sym c.brought.view_is) c.requires.ready in
    let here : c.task-task.result.now.gate ≡ c.args.gate = scene.progress.gate c.args.gate c.task-task.result.now c.task-task.ensures in
    serves b.plan (me_of b) c.task-task.result.now.gate b.own b.part scene.serves scene.unkeyed (subst (λ g. g < length b.plan.gates) (sym here) ready.inside)

pub run-requires-clause-all : goal.run-requires-clause-all
run-requires-clause-all c =
    let b : Side = record { plan = c.brought.inside.plan.now; own = c.brought.inside.own.now; part = c.brought.inside.part.now } in
    let p = c.args.stages.now in
    let scene : IsScene b c.args.inbox.now p = subst (λ (s : Side). IsScene s c.args.inbox.now p) (sym c.brought.view_is) c.requires.scene in
    let ready : IsReady b c.args.inbox.now p c.args.gate = subst (λ (s : Side). IsReady s c.args.inbox.now p c.args.gate) (sym c.brought.view_is) c.requires.ready in
    let here : c.task-task.result.now.gate ≡ c.args.gate = scene.progress.gate c.args.gate c.task-task.result.now c.task-task.ensures in
    rw (here, c.wires.ensures) (ready.all c.task-task.result.now c.task-task.ensures)

pub returns-clause-ran : goal.returns-clause-ran
returns-clause-ran c =
    let b : Side = record { plan = c.brought.inside.plan.now; own = c.brought.inside.own.now; part = c.brought.inside.part.now } in
    let p = c.args.stages.now in
    let scene : IsScene b c.args.inbox.now p = subst (λ (s : Side). IsScene s c.args.inbox.now p) (sym c.brought.view_is) c.requires.scene in
    let ready : IsReady b c.args.inbox.now p c.args.gate = subst (λ (s : Side). IsReady s c.args.inbox.now p c.args.gate) (sym c.brought.view_is) c.requires.ready in
    subst (λ (s : Side). IsRan s c.args.inbox.now (record { gate = c.args.gate; stage = c.stage.result; given = c.in_ok-given.given })) c.brought.view_is
    (ran_is b c.args.inbox.now p c.args.gate c.stage.result c.task-task.result.now c.wires.result.now c.in_ok-given.given scene ready c.task-task.ensures c.stage.ensures c.wires.ensures c.in_ok-given.ensures.gives c.in_ok-given.ensures.typed)

pub returns-clause-next : goal.returns-clause-next
returns-clause-next c =
    next_is c.args.brought.now c.args.inbox.now c.args.stages.now c.args.gate c.stage.result c.task-task.result.now c.in_ok-given.given c.requires.scene c.requires.ready c.task-task.ensures c.stage.ensures
