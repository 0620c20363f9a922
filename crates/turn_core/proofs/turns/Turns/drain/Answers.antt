use Rattle.std.proofs.Common.{◌≡◌, ℕ, ◌+◌, ◌<◌, sym, ap, ◌∙◌, subst, arith}
use Rattle.turn_core.specs.Core.{IsIn, with_one, left_of, Core, IsReady, Leads}
use Rattle.turn_core.proofs.Draining.{IsDraining, drains_more, drained, work_inputs, core_now, left-one, turns_fit}
use Rattle.turn_core.proofs.Leaving.{after_turn, turn-now, turn-handed, in-new}
use Rattle.turn_core.proofs.turns.Turns.drain.Goals as goal

pub returns-in_default-clause-number : goal.returns-in_default-clause-number
returns-in_default-clause-number g c =
    let end = drained _ _ _ _ _ _ _ _ _ c.loop-item.invariant.0 c.in_default.ensures.none in
    omega (arith, end.left, c.loop-item.invariant.0.number)

pub returns-in_default-clause-steps : goal.returns-in_default-clause-steps
returns-in_default-clause-steps g c =
    let end = drained _ _ _ _ _ _ _ _ _ c.loop-item.invariant.0 c.in_default.ensures.none in
    omega (arith, end.left, c.loop-item.invariant.0.number, c.loop-item.invariant.0.steps_is)

pub returns-in_default-clause-count : goal.returns-in_default-clause-count
returns-in_default-clause-count g c =
    let end = drained _ _ _ _ _ _ _ _ _ c.loop-item.invariant.0 c.in_default.ensures.none in
    omega (arith, end.left, c.loop-item.invariant.0.number, c.loop-item.invariant.0.count_is)

pub returns-in_default-clause-once : goal.returns-in_default-clause-once
returns-in_default-clause-once g c =
    let end = drained _ _ _ _ _ _ _ _ _ c.loop-item.invariant.0 c.in_default.ensures.none in
    (c.loop-item.invariant.0.events, subst (λ (x : Core). Leads c.args.self.now c.loop-item.invariant.0.events x) (sym c.in_default.ensures.same) end.run, end.once)

pub returns-in_default-clause-handed : goal.returns-in_default-clause-handed
returns-in_default-clause-handed g c =
    let end = drained _ _ _ _ _ _ _ _ _ c.loop-item.invariant.0 c.in_default.ensures.none in
    subst (λ (x : Core). (k : ℕ) → k < c.args.self.now.graph.items → IsIn x.handed k) (sym c.in_default.ensures.same) end.handed

pub turn-requires-clause-inputs : goal.turn-requires-clause-inputs
turn-requires-clause-inputs g c =
    let d = c.loop-item.invariant.0 in
    work_inputs c.loop-item.self _ _ c.in-Some.item (core_now _ _ _ _ _ _ _ _ _ d) d.graph_is d.turned_is c.in-Some.ensures.ready

pub done-requires-clause-handed : goal.done-requires-clause-handed
done-requires-clause-handed g c =
    let d = c.loop-item.invariant.0 in
    subst (λ (x : Core). IsIn x.handed c.in-Some.item) (sym c.in-Some.ensures.after) (in-new c.loop-item.self c.in-Some.item (core_now _ _ _ _ _ _ _ _ _ d) c.in-Some.ensures.ready)

pub overflow_add-turns : goal.overflow_add-turns
overflow_add-turns g c =
    let few = turns_fit _ _ _ _ _ _ _ _ _ c.in-Some.item c.loop-item.invariant.0 c.in-Some.ensures.ready in
    omega (arith, few)

pub loop-item-smaller : goal.loop-item-smaller
loop-item-smaller g c =
    let core = core_now _ _ _ _ _ _ _ _ _ c.loop-item.invariant.0 in
    let ready : IsReady c.loop-item.self c.in-Some.item = c.in-Some.ensures.ready in
    let now = turn-now c.loop-item.self c.next.new.self c.done.new.self c.in-Some.item c.in-Some.ensures.after c.done.ensures.after in
    let less = left-one c.loop-item.self.handed c.in-Some.item (omega (arith, core.items, ready.is_item)) ready.is_new in
    let turned : left_of (after_turn c.loop-item.self c.in-Some.item).handed ≡ left_of (with_one c.loop-item.self.handed c.in-Some.item) =
    ap left_of (turn-handed c.loop-item.self c.in-Some.item) in
    let same : left_of c.done.new.self.handed ≡ left_of (after_turn c.loop-item.self c.in-Some.item).handed = ap (λ (x : Core). left_of x.handed) now in
    omega (arith, less, turned, same)

pub loop-item-preserved : goal.loop-item-preserved
loop-item-preserved g c =
    let now = turn-now c.loop-item.self c.next.new.self c.done.new.self c.in-Some.item c.in-Some.ensures.after c.done.ensures.after in
    let more = drains_more _ _ _ _ _ _ _ _ _ c.in-Some.item
    (g.W.DrainWork.graph c.turn.new.self) (g.W.DrainWork.turned c.turn.new.self) (g.W.DrainWork.count c.turn.new.self) c.tick.new.self
    c.loop-item.invariant.0 c.in-Some.ensures.ready c.turn.ensures.graph c.turn.ensures.turned c.turn.ensures.count c.tick.ensures in (
      subst (λ (x : Core). IsDraining c.args.self.now x (g.W.DrainWork.graph c.turn.new.self) (g.W.DrainWork.turned c.turn.new.self)
          (g.W.DrainWork.count c.turn.new.self) (g.W.DrainWork.count c.args.work.now) c.tick.new.self c.args.steps.now (c.loop-item.turns + 1)) (sym now) more,
      c.turn.ensures.graph ∙ c.loop-item.invariant.1,
      c.turn.ensures.made ∙ c.loop-item.invariant.2,
    )
