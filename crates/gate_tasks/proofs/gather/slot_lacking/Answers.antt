use Rattle.std.proofs.Common.{◌≡◌, ◌<◌, true, false, sym, ◌∙◌, ap, subst}
use Rattle.std.specs.Prelude.{is_some, is_none, option_map}
use Rattle.std.specs.FinMap as map
use Rattle.plan_gates.specs.declared.message.Message.{Message}
use Rattle.plan_gates.specs.Messages.{message}
use Rattle.gate_tasks.specs.Task.{slot_from, party_lacking}
use Rattle.gate_tasks.proofs.Gathered.{found_none, found_first, mapped_some, copied_some, not_some, one_not}
use Rattle.gate_tasks.proofs.gather.slot_lacking.Goals as goal

pub returns-then-is_none-2 : goal.returns-then-is_none-2
returns-then-is_none-2 c =
    let env = c.args.env.now in
    let plan = env.plan.now in
    let me = env.own.now.me.0 in
    let at = c.loop-from.from in
    let sent : is_some (message plan at me c.args.gate c.args.round) ≡ true =
    sym (mapped_some (λ (m : Message). m.len) (message plan at me c.args.gate c.args.round)) ∙ (ap is_some (sym c.slot.ensures) ∙ c.if-is_none.ensures) in
    let there = map.get env.inbox.now.kept (slot_from c.args.gate c.args.round at) in
    let lacks : is_none there ≡ true =
    not_some there false (ap is_some (sym c.get.ensures.is) ∙ (copied_some c.get.result ∙ c.if-is_none-2.ensures)) in
    sym (ap (option_map (slot_from c.args.gate c.args.round))
    (found_first (λ from. is_none (map.get env.inbox.now.kept (slot_from c.args.gate c.args.round from))) (λ from. is_some (message plan from me c.args.gate c.args.round))
    plan.parties at (subst (λ n. at < n) c.parties-from-end.ensures.value c.loop-from-test.true) sent lacks c.loop-from.invariant))

pub loop-from-preserved-then-is_none : goal.loop-from-preserved-then-is_none
loop-from-preserved-then-is_none c =
    let env = c.args.env.now in
    let plan = env.plan.now in
    let me = env.own.now.me.0 in
    let at = c.loop-from.from in
    let silent : is_some (message plan at me c.args.gate c.args.round) ≡ false =
    sym (mapped_some (λ (m : Message). m.len) (message plan at me c.args.gate c.args.round))
    ∙ (ap is_some (sym c.slot.ensures) ∙ c.if-is_none.ensures) in
    ap (party_lacking env.inbox.now c.args.gate c.args.round)
    (one_not (λ from. is_some (message plan from me c.args.gate c.args.round)) at silent)
    ∙ c.loop-from.invariant

pub loop-from-preserved : goal.loop-from-preserved
loop-from-preserved c =
    let env = c.args.env.now in
    let plan = env.plan.now in
    let me = env.own.now.me.0 in
    let at = c.loop-from.from in
    let sent : is_some (message plan at me c.args.gate c.args.round) ≡ true =
    sym (mapped_some (λ (m : Message). m.len) (message plan at me c.args.gate c.args.round)) ∙ (ap is_some (sym c.slot.ensures) ∙ c.if-is_none.ensures) in
    let there = map.get env.inbox.now.kept (slot_from c.args.gate c.args.round at) in
    let has : is_none there ≡ false =
    not_some there true (ap is_some (sym c.get.ensures.is) ∙ (copied_some c.get.result ∙ c.if-is_none-2.ensures)) in
    found_none (λ from. is_none (map.get env.inbox.now.kept (slot_from c.args.gate c.args.round from))) (λ from. is_some (message plan from me c.args.gate c.args.round))
    at sent has c.loop-from.invariant
