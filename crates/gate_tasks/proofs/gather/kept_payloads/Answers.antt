use Rattle.std.proofs.Common.{ℕ, List, ◌≡◌, true, false, ◌++◌, sym, ◌∙◌, ap}
use Rattle.std.specs.Prelude.{is_some}
use Rattle.std.specs.FinMap as map
use Rattle.plan_gates.specs.declared.message.Message.{Message}
use Rattle.plan_gates.specs.Messages.{message}
use Rattle.joint_run.specs.Party.{Payload}
use Rattle.gate_tasks.specs.Task.{option_list, slot_from}
use Rattle.gate_tasks.proofs.Gathered.{gathered_more, gathered_none, mapped_some, fit_more, fit_none}
use Rattle.gate_tasks.proofs.gather.kept_payloads.Goals as goal

pub loop-from-preserved : goal.loop-from-preserved
loop-from-preserved c =
    let env = c.args.env.now in
    let plan = env.plan.now in
    let me = env.own.now.me.0 in
    let at = c.loop-from.from in
    let round = c.in-Some.round in
    let sent : is_some (message plan at me c.args.gate round) ≡ true =
    sym (mapped_some (λ (m : Message). m.len) (message plan at me c.args.gate round)) ∙ (ap is_some (sym c.slot.ensures) ∙ c.if-is_none.ensures) in
    let f : ℕ → List Payload = λ from. option_list (map.get env.inbox.now.kept (slot_from c.args.gate round from)) in (
      c.in_ok-push_kept.ensures.pushed
          ∙ (ap (λ ps. ps ++ f at) c.loop-from.invariant.0
          ∙ sym (gathered_more f (λ from. is_some (message plan from me c.args.gate round)) at sent)),
      fit_more plan me env.inbox.now c.args.gate round at c.loop-from.invariant.1 c.in_ok-push_kept.ensures.fits,
    )

pub loop-from-preserved-then-is_none : goal.loop-from-preserved-then-is_none
loop-from-preserved-then-is_none c =
    let env = c.args.env.now in
    let plan = env.plan.now in
    let me = env.own.now.me.0 in
    let at = c.loop-from.from in
    let round = c.in-Some.round in
    let none : is_some (message plan at me c.args.gate round) ≡ false =
    sym (mapped_some (λ (m : Message). m.len) (message plan at me c.args.gate round)) ∙ (ap is_some (sym c.slot.ensures) ∙ c.if-is_none.ensures) in
    let f : ℕ → List Payload = λ from. option_list (map.get env.inbox.now.kept (slot_from c.args.gate round from)) in (
      c.loop-from.invariant.0 ∙ sym (gathered_none f (λ from. is_some (message plan from me c.args.gate round)) at none),
      fit_none plan me env.inbox.now c.args.gate round at c.loop-from.invariant.1 none,
    )
