use Rattle.std.proofs.Common.{◌≡◌, sym, ◌∙◌, subst}
use Rattle.std.specs.Prelude.{slice_get, Some}
use Rattle.gate_tasks.specs.Task.{Task}
use Rattle.party_stages.specs.Following.{Side, me_of, IsProgress}
use Rattle.party_stages.specs.Scene.{need_at}
use Rattle.party_stages.proofs.Held.{need_is}
use Rattle.party_stages.proofs.scene.need_of.Goals as goal

pub returns : goal.returns
returns c =
    let b : Side = record { plan = c.brought.inside.plan.now; own = c.brought.inside.own.now; part = c.brought.inside.part.now } in
    let p = c.args.stages.now in
    let progress : IsProgress b.plan (me_of b) p = subst (λ (s : Side). IsProgress s.plan (me_of s) p) (sym c.brought.view_is) c.requires.progress in
    subst (λ (s : Side). (task : Task) → slice_get p.tasks c.args.gate ≡ Some task → c.lacking.result ≡ need_at s c.args.inbox.now p c.args.gate task.stage) c.brought.view_is
    (λ task there. c.lacking.ensures ∙ need_is b c.args.inbox.now p c.args.gate task c.task.result.now c.wires.result.now c.wires.ensures progress c.task.ensures there)
