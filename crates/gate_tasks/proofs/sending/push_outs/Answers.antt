use Rattle.std.proofs.Common.{ℕ, List, [], ◌∷◌, ◌++◌, map, filter, sym, ◌∙◌, ap, ap₂, append_assoc}
use Rattle.std.specs.Prelude.{is_some}
use Rattle.std.proofs.lemmas.List.{map-append}
use Rattle.share_types.specs.Sums.{each}
use Rattle.plan_gates.specs.declared.message.Message.{Message}
use Rattle.plan_gates.specs.Messages.{message}
use Rattle.joint_run.specs.Party.{Payload}
use Rattle.gate_tasks.specs.Sending.{out_by, payload_for}
use Rattle.gate_tasks.specs.declared.outgoing.Out.{Out}
use Rattle.gate_tasks.proofs.Gathered.{one_more, one_not, mapped_some}
use Rattle.gate_tasks.proofs.sending.push_outs.Goals as goal
use Rattle.gate_tasks.proofs.sending.push_outs.Goals.{then-is_some+in_ok-payload+in_ok-push, else-is_some}

pub loop-to-preserved : goal.loop-to-preserved
loop-to-preserved c =
    let env = c.args.env.now in
    let plan = env.plan.now in
    let me = env.own.now.me.0 in
    let to = c.loop-to.to in
    let make : ℕ → Out = out_by env c.args.round (payload_for c.args.sent.now) in
    let sends : ℕ → _ = λ q. is_some (message plan me q env.gate c.args.round) in
    let told = sym (mapped_some (λ (m : Message). m.len) (message plan me to env.gate c.args.round)) ∙ (ap is_some (sym c.slot.ensures) ∙ sym c.is_some.ensures) in
    let out : Payload → Out = λ payload. record { to = record { 0 = to }; gate = env.gate; round = c.args.round; payload = payload } in
    let base : List Out = c.args.outs.now.items in
    let made : List Out = map make (filter sends (each to (λ k. k))) in
    elim c.if-is_some.branch [
      | then-is_some+in_ok-payload+in_ok-push w ↦
          (ap (λ v. v.items) w.outs-is
          ∙ (w.in_ok-push.ensures.items
          ∙ (ap₂ (λ xs p. xs ++ out p ∷ []) c.loop-to.invariant w.in_ok-payload.ensures
          ∙ (append_assoc base made (make to ∷ [])
          ∙ ap (λ (xs : List Out). base ++ xs)
          (sym (ap (map make) (one_more sends to (told ∙ w.if-is_some.true)) ∙ map-append make (filter sends (each to (λ k. k))) (to ∷ [])))))))
      | else-is_some w ↦
          (ap (λ v. v.items) w.outs-is
          ∙ (c.loop-to.invariant
          ∙ ap (λ (xs : List Out). base ++ xs) (sym (ap (map make) (one_not sends to (told ∙ w.if-is_some.false))))))
    ]
