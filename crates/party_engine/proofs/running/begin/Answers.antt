use Rattle.std.proofs.Common.{◌∙◌, ap, sym, length, subst, List}
use Rattle.message_demux.specs.declared.slots.SlotSpec.{SlotSpec}
use Rattle.message_demux.specs.Kept.{InboxContents}
use Rattle.plan_gates.specs.Messages.{AreSlotsTo}
use Rattle.party_stages.specs.Following.{Side, me_of}
use Rattle.party_engine.proofs.running.begin.Goals as goal

pub returns-clause-scene : goal.returns-clause-scene
returns-clause-scene c =
    let b = c.args.brought.now in
    let gates = c.gates-gates.ensures.value ∙ ap (λ (s : Side). length s.plan.gates) c.brought.view_is in
    let listed = subst (λ (s : Side). AreSlotsTo s.plan (me_of s) c.in_ok-slots.slots.items) c.brought.view_is c.in_ok-slots.ensures in
    let slots = subst (λ (specs : List SlotSpec). AreSlotsTo b.plan (me_of b) specs) (sym (ap (λ (i : InboxContents). i.slots) c.in_ok-inbox.ensures)) listed in
    c.in_ok-stages.ensures.scene b c.in_ok-inbox.inbox (sym gates) (record {
      plan = c.requires.asked.plan;
      unkeyed = c.requires.asked.unkeyed;
      inside = c.requires.asked.inside;
      serves = c.requires.serves;
      slots = slots;
    })
