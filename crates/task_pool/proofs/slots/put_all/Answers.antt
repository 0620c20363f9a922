use Rattle.std.proofs.Common.{◌≡◌, length, map, Some, sym, ap, ◌∙◌, arith}
use Rattle.task_pool.proofs.Moves.{puts-next, puts-end, puts-others, puts-whole, all_put}
use Rattle.task_pool.proofs.slots.put_all.Goals as goal

pub loop-value-preserved : goal.loop-value-preserved
loop-value-preserved g c =
    puts-next c.args.edges.now c.loop-value.at c.args.slots.now c.loop-value.slots c.put.new.self c.args.values.items
    c.loop-value.yielded c.loop-value.value-iterator.rest.items c.next.new.self.rest.items c.in-Some.value
    c.requires.distinct c.requires.below c.requires.as_many c.loop-value.invariant.0 c.loop-value.invariant.1 c.in-Some.ensures.steps.0
    c.in_ok-put.ensures.put

pub returns-clause-put : goal.returns-clause-put
returns-clause-put g c =
    let rest = c.loop-value.value-iterator.rest in
    let none : length rest.items ≡ 0 = sym rest.ok.0 ∙ c.in-None.ensures.steps.0 in
    let end = puts-end c.args.edges.now c.loop-value.at c.args.values.items c.loop-value.yielded rest.items c.requires.as_many c.loop-value.invariant.0.count c.loop-value.invariant.1 none in
    all_put c.args.edges.now c.loop-value.at _ _ _ (omega (arith, end)) c.loop-value.invariant.0
    ∙ ap (map Some) (puts-whole c.args.values.items c.loop-value.yielded rest.items c.loop-value.invariant.1 none)

pub returns-clause-others : goal.returns-clause-others
returns-clause-others g c =
    let rest = c.loop-value.value-iterator.rest in
    let none : length rest.items ≡ 0 = sym rest.ok.0 ∙ c.in-None.ensures.steps.0 in
    let end = puts-end c.args.edges.now c.loop-value.at c.args.values.items c.loop-value.yielded rest.items c.requires.as_many c.loop-value.invariant.0.count c.loop-value.invariant.1 none in
    puts-others c.args.edges.now c.loop-value.at _ _ _ (omega (arith, end)) c.loop-value.invariant.0
