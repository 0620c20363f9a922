use Rattle.std.proofs.Common.{◌≡◌, List, sym, ◌∙◌, ap, subst, arith}
use Rattle.message_demux.specs.declared.slots.SlotSpec.{SlotSpec}
use Rattle.plan_gates.specs.Messages.{AreSlotsTo}
use Rattle.plan_gates.proofs.SlotLemmas.{slots_all, slots_before}
use Rattle.plan_gates.proofs.plan.Plan.slots_to.Goals as goal

pub returns : goal.returns
returns c =
    let plan = c.args.self.now in
    let to = c.args.receiver.0 in
    let past = c.loop-sender-test.false in
    let end = c.loop-sender.auto.sender-end in
    let parties = c.parties-sender-end.ensures.value in
    let valid = c.parties-sender-end.ensures.plan in
    let all : c.loop-sender.sender ≡ plan.parties = omega arith in
    let P : List SlotSpec → Type 0 = λ specs. AreSlotsTo plan to specs in
    subst P (sym (c.loop-sender.invariant ∙ ap (slots_before plan to) all)) (slots_all plan valid to)
