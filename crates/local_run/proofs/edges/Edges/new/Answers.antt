use Rattle.std.proofs.Common.{◌∙◌, sym, subst, arith, List}
use Rattle.std.specs.List.{AllByRecursion}
use Rattle.local_run.specs.declared.item.Load.{Load}
use Rattle.local_run.specs.Items.{all_items}
use Rattle.local_run.specs.Loads.{reports_loads, IsGiven}
use Rattle.local_run.proofs.Lists.{added}
use Rattle.local_run.proofs.Valid.{loads_given, reports_given}
use Rattle.local_run.proofs.Blocks.{item_there, item_of, number_fits, loads_more, edges_more}
use Rattle.local_run.proofs.edges.Edges.new.Goals as goal

pub push_loads-requires : goal.push_loads-requires
push_loads-requires c =
    (item_of c.args.plan.now c.deref-item-items.result.now c.loop-number.number _ (c.deref-item-items.ensures.value ∙ c.requires.list) c.loop-number-test.true).gate

pub overflow_cast-number : goal.overflow_cast-number
overflow_cast-number c =
    let few = number_fits c.args.plan.now c.deref-item-items.result.now c.loop-number.number c.requires.plan (c.deref-item-items.ensures.value ∙ c.requires.list) c.loop-number-test.true in
    omega (arith, few)

pub push_edges-requires-clause-given : goal.push_edges-requires-clause-given
push_edges-requires-clause-given c =
    let plan = c.args.plan.now in
    let is = item_of plan c.deref-item-items.result.now c.loop-number.number _ (c.deref-item-items.ensures.value ∙ c.requires.list) c.loop-number-test.true in
    let same = added c.loop-number.loads.items _ c.deref.result.now c.len-start.result (c.deref.ensures.value ∙ c.in_ok-push_loads.ensures) (c.len-start.ensures ∙ c.loop-number.loads.ok.0) in
    subst (λ (xs : List Load). AllByRecursion (IsGiven plan) xs) (sym same) (loads_given plan _ c.requires.plan is)

pub loop-number-preserved : goal.loop-number-preserved
loop-number-preserved c =
    let plan = c.args.plan.now in
    let there = item_there plan c.deref-item-items.result.now c.loop-number.number _ (c.deref-item-items.ensures.value ∙ c.requires.list) c.loop-number-test.true in
    let same = added c.loop-number.loads.items _ c.deref.result.now c.len-start.result (c.deref.ensures.value ∙ c.in_ok-push_loads.ensures) (c.len-start.ensures ∙ c.loop-number.loads.ok.0) in (
      loads_more plan (all_items plan) c.loop-number.number _ c.loop-number.loads.items _ there c.loop-number.invariant.0 c.in_ok-push_loads.ensures,
      edges_more plan (all_items plan) c.loop-number.number _ c.loop-number.edges.items _ _ there c.loop-number.invariant.1 same c.in_ok-push_edges.ensures,
    )

pub push_edges-requires-2-clause-given : goal.push_edges-requires-2-clause-given
push_edges-requires-2-clause-given c =
    let plan = c.args.plan.now in
    let same = added c.loop-number.loads.items (reports_loads plan plan.parties) c.deref-2.result.now c.len-start-2.result (c.deref-2.ensures.value ∙ c.in_ok-push_reports.ensures) (c.len-start-2.ensures ∙ c.loop-number.loads.ok.0) in
    subst (λ (xs : List Load). AllByRecursion (IsGiven plan) xs) (sym same) (reports_given plan)
