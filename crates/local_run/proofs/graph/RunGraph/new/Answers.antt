use Rattle.std.proofs.Common.{Err, List, ◌∙◌, ap, length, arith}
use Rattle.turn_core.specs.declared.edge.Edge.{Edge}
use Rattle.local_run.proofs.Bounds.{edges_few}
use Rattle.local_run.proofs.Numbers.{few_items}
use Rattle.local_run.proofs.Forward.{never_bad, never_back}
use Rattle.local_run.proofs.graph.RunGraph.new.Goals as goal

pub overflow_cast-len : goal.overflow_cast-len
overflow_cast-len c =
    let plan = c.args.plan.now in
    let few = few_items plan (length plan.gates) c.parties-parties.ensures.plan (omega arith) in
    let long = ap length c.in_ok-items.ensures.list in
    omega (arith, few, long, c.len.ensures, c.in_ok-items.items.list.ok.0)

pub new-requires-3 : goal.new-requires-3
new-requires-3 c = record {
  few =
      let few = edges_few c.args.plan.now c.parties-parties.ensures.plan in
      let long = ap (λ (es : List Edge). length es) c.in_ok-loads.ensures.edges in
      omega (arith, few, long, c.in_ok-loads.field-0.edges.ok.0);
}

pub unreachable-requires : goal.unreachable-requires
unreachable-requires c =
    let e = c.in-Err-BadEnd.field-0-0 in
    never_bad c.args.plan.now c.len.result c.in_ok-loads.field-0.edges.items e c.parties-parties.ensures.plan
    (c.len.ensures ∙ c.in_ok-items.items.list.ok.0 ∙ ap length c.in_ok-items.ensures.list) c.in_ok-loads.ensures.edges
    ((c.in-Err-BadEnd.ensures.bad_end e).0 (ap (λ x. Err x) c.in-Err-BadEnd.field-0-is))

pub unreachable-requires-in-Err-NotForward : goal.unreachable-requires-in-Err-NotForward
unreachable-requires-in-Err-NotForward c =
    let e = c.in-Err-NotForward.field-0-0 in
    never_back c.args.plan.now c.len.result c.in_ok-loads.field-0.edges.items e c.parties-parties.ensures.plan
    (c.len.ensures ∙ c.in_ok-items.items.list.ok.0 ∙ ap length c.in_ok-items.ensures.list) c.in_ok-loads.ensures.edges
    ((c.in-Err-NotForward.ensures.not_forward e).0 (ap (λ x. Err x) c.in-Err-NotForward.field-0-is)).1
