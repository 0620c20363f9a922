use Rattle.std.proofs.Common.{Err, List, ap, length, arith}
use Rattle.share_types.proofs.Parties.{length-each}
use Rattle.turn_core.specs.declared.edge.Edge.{Edge}
use Rattle.turn_core.specs.declared.edge.TheConstants.{TERMINAL}
use Rattle.party_stages.proofs.Lone.{never_bad, never_back}
use Rattle.party_stages.proofs.ready.lone_graph.Goals as goal

pub new-requires : goal.new-requires
new-requires c = record {
  few =
      let long = length-each c.loop-source.source (λ k. let e : Edge = record { source = k; target = TERMINAL } in e) in
      let count = ap (λ (es : List Edge). length es) c.loop-source.invariant in
      omega (arith, long, count, c.requires, c.loop-source.edges.ok.0, c.loop-source.auto.source-end);
}

pub unreachable-requires : goal.unreachable-requires
unreachable-requires c =
    let e = c.in-Err-BadEnd.field-0-0 in
    never_bad c.loop-source.source c.args.items c.loop-source.edges.items e (omega (arith, c.loop-source-test.false, c.loop-source.auto.source-end)) c.loop-source.invariant
    ((c.in-Err-BadEnd.ensures.bad_end e).0 (ap (λ x. Err x) c.in-Err-BadEnd.field-0-is))

pub unreachable-requires-in-Err-NotForward : goal.unreachable-requires-in-Err-NotForward
unreachable-requires-in-Err-NotForward c =
    let e = c.in-Err-NotForward.field-0-0 in
    never_back c.loop-source.source c.args.items c.loop-source.edges.items e (omega (arith, c.loop-source-test.false, c.loop-source.auto.source-end)) (omega (arith, c.requires, c.loop-source.auto.source-end)) c.loop-source.invariant
    ((c.in-Err-NotForward.ensures.not_forward e).0 (ap (λ x. Err x) c.in-Err-NotForward.field-0-is)).1
