use Rattle.std.proofs.Common.{◌<◌, ◌+◌, ℕ, length, ap, ◌∙◌, arith}
use Rattle.std.proofs.lemmas.List.{length_push}
use Rattle.local_run.proofs.Lines.{told_loads, sent_loads, cut, told_inside, sent_inside, cut_sendable, reports_next, filled}
use Rattle.local_run.proofs.report.reports.Goals as goal

pub split_at-requires : goal.split_at-requires
split_at-requires c =
    let plan = c.args.plan.now in
    let p = c.loop-party.party in
    let less : p < plan.parties = omega (arith, c.loop-party-test.true, c.parties-party-end.ensures.value) in
    let wires = filled c.push_told.new.loads.items c.new-wires.result.items (told_loads plan p) c.in_ok-push_told.ensures c.new-wires.ensures.items in
    told_inside plan p c.len.result c.args.ends.now c.loop-party.rest.now less c.requires.fit c.loop-party.invariant.0 (c.len.ensures ∙ c.push_told.new.loads.ok.0 ∙ ap length wires)

pub split_at-requires-in-loop-party : goal.split_at-requires-in-loop-party
split_at-requires-in-loop-party c =
    let plan = c.args.plan.now in
    let p = c.loop-party.party in
    let less : p < plan.parties = omega (arith, c.loop-party-test.true, c.parties-party-end.ensures.value) in
    let wires = filled c.push_told.new.loads.items c.new-wires.result.items (told_loads plan p) c.in_ok-push_told.ensures c.new-wires.ensures.items in
    let messages = filled c.push_sent.new.loads.items c.new-messages.result.items (sent_loads plan p) c.in_ok-push_sent.ensures c.new-messages.ensures.items in
    sent_inside plan p c.len.result c.len-in-loop-party.result c.args.ends.now c.loop-party.rest.now c.split_at.result.1.now less c.requires.fit c.loop-party.invariant.0
    (c.len.ensures ∙ c.push_told.new.loads.ok.0 ∙ ap length wires) (c.len-in-loop-party.ensures ∙ c.push_sent.new.loads.ok.0 ∙ ap length messages) c.split_at.ensures.back

pub report-requires-clause-sendable : goal.report-requires-clause-sendable
report-requires-clause-sendable c =
    let plan = c.args.plan.now in
    let p = c.loop-party.party in
    let less : p < plan.parties = omega (arith, c.loop-party-test.true, c.parties-party-end.ensures.value) in
    let wires = filled c.push_told.new.loads.items c.new-wires.result.items (told_loads plan p) c.in_ok-push_told.ensures c.new-wires.ensures.items in
    let messages = filled c.push_sent.new.loads.items c.new-messages.result.items (sent_loads plan p) c.in_ok-push_sent.ensures c.new-messages.ensures.items in
    let cuts = cut plan p c.len.result c.len-in-loop-party.result c.args.ends.now c.loop-party.rest.now c.split_at.result.0.now c.split_at.result.1.now c.split_at-in-loop-party.result.0.now c.split_at-in-loop-party.result.1.now
    c.loop-party.invariant.0 (c.len.ensures ∙ c.push_told.new.loads.ok.0 ∙ ap length wires) (c.len-in-loop-party.ensures ∙ c.push_sent.new.loads.ok.0 ∙ ap length messages)
    c.split_at.ensures.front c.split_at.ensures.back c.split_at-in-loop-party.ensures.front c.split_at-in-loop-party.ensures.back in
    cut_sendable plan p c.args.ends.now c.split_at.result.0.now c.split_at-in-loop-party.result.0.now c.split_at-in-loop-party.result.1.now c.deref.result.now
    c.requires.plan less c.requires.fit (c.deref.ensures.value ∙ messages) cuts

pub loop-party-preserved : goal.loop-party-preserved
loop-party-preserved c =
    let plan = c.args.plan.now in
    let p = c.loop-party.party in
    let less : p < plan.parties = omega (arith, c.loop-party-test.true, c.parties-party-end.ensures.value) in
    let wires = filled c.push_told.new.loads.items c.new-wires.result.items (told_loads plan p) c.in_ok-push_told.ensures c.new-wires.ensures.items in
    let messages = filled c.push_sent.new.loads.items c.new-messages.result.items (sent_loads plan p) c.in_ok-push_sent.ensures c.new-messages.ensures.items in
    let cuts = cut plan p c.len.result c.len-in-loop-party.result c.args.ends.now c.loop-party.rest.now c.split_at.result.0.now c.split_at.result.1.now c.split_at-in-loop-party.result.0.now c.split_at-in-loop-party.result.1.now
    c.loop-party.invariant.0 (c.len.ensures ∙ c.push_told.new.loads.ok.0 ∙ ap length wires) (c.len-in-loop-party.ensures ∙ c.push_sent.new.loads.ok.0 ∙ ap length messages)
    c.split_at.ensures.front c.split_at.ensures.back c.split_at-in-loop-party.ensures.front c.split_at-in-loop-party.ensures.back in (
      cuts.next_are,
      ap length c.in_ok-push.ensures.items ∙ length_push c.loop-party.reports.items c.in_ok-report.report ∙ ap (λ (n : ℕ). n + 1) c.loop-party.invariant.1,
      λ owns table joint meant q r there.
          reports_next plan owns table p c.args.ends.now c.split_at.result.0.now c.split_at-in-loop-party.result.0.now c.split_at-in-loop-party.result.1.now c.deref.result.now
          c.loop-party.reports.items c.push.new.self.items c.in_ok-report.report joint less meant cuts (c.deref.ensures.value ∙ messages)
          c.in_ok-report.ensures.told c.in_ok-report.ensures.digest c.loop-party.invariant.1 (c.loop-party.invariant.2 owns table joint meant) c.in_ok-push.ensures.items q r there,
    )

pub returns : goal.returns
returns c owns table joint meant = record {
  count = let count = c.loop-party.invariant.1 in omega (arith, count, c.loop-party-test.false, c.parties-party-end.ensures.value, c.loop-party.auto.party-end);
  each = c.loop-party.invariant.2 owns table joint meant;
}
