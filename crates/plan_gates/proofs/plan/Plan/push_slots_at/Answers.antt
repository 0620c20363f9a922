use Rattle.std.proofs.Common.{ℕ, suc, ◌≡◌, ◌+◌, List, [], ◌∷◌, ◌++◌, Option, Some, None, sym, ◌∙◌, ap, arith, append_assoc}
use Rattle.message_demux.specs.declared.slots.SlotSpec.{SlotSpec}
use Rattle.mot_base.proofs.Lists.{nothing_behind}
use Rattle.plan_gates.specs.declared.message.Message.{Message}
use Rattle.plan_gates.specs.Plan.{Gates}
use Rattle.plan_gates.specs.Messages.{message, slots_in, slot_list, spec_of}
use Rattle.plan_gates.proofs.plan.Plan.push_slots_at.Goals as goal
use Rattle.plan_gates.proofs.plan.Plan.push_slots_at.Goals.{in-Some+in_ok-push, in_default}

next : (plan : Gates) (from to g round : ℕ) (o : Option Message) → message plan from to g round ≡ o →
    slots_in plan from to g (round + 1) ≡ slots_in plan from to g round ++ slot_list from g round o
next plan from to g round o e =
    let more : round + 1 ≡ suc round = omega arith in
    ap (slots_in plan from to g) more ∙ ap (λ m. slots_in plan from to g round ++ slot_list from g round m) e

pub loop-round-preserved : goal.loop-round-preserved
loop-round-preserved c =
    let plan = c.args.self.now in
    let from = c.args.sender.0 in
    let to = c.args.receiver.0 in
    let g = c.args.gate in
    let base : List SlotSpec = c.args.slots.now.items in
    let round = c.loop-round.round in
    elim c.match-message.branch [
      | in-Some+in_ok-push w ↦
          (ap (λ v. v.items) w.slots-is
          ∙ (w.in_ok-push.ensures.items
          ∙ (ap (λ xs. xs ++ spec_of from g round w.in-Some.message ∷ []) c.loop-round.invariant
          ∙ (append_assoc base (slots_in plan from to g round) (spec_of from g round w.in-Some.message ∷ [])
          ∙ ap (λ xs. base ++ xs) (sym (next plan from to g round (Some w.in-Some.message) (sym c.message.ensures ∙ w.in-Some.is)))))))
      | in_default w ↦
          (ap (λ v. v.items) w.slots-is
          ∙ (c.loop-round.invariant
          ∙ ap (λ xs. base ++ xs) (sym (next plan from to g round None (sym c.message.ensures ∙ w.in_default.is) ∙ nothing_behind (slots_in plan from to g round)))))
    ]
