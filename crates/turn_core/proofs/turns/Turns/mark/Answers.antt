use Rattle.std.proofs.Common.{ℕ, ◌+◌, ◌-◌, sym, ◌∙◌, subst, arith}
use Rattle.std.proofs.Math.ListN.{set}
use Rattle.turn_core.specs.declared.turns.Turns.TheInside.{Inside}
use Rattle.turn_core.specs.Core.{Core}
use Rattle.turn_core.specs.Counters.{IsTied}
use Rattle.turn_core.proofs.Ties.{MayMark, with_mark, a_mark, holds, counter, some_missing, marks-terminal, marks-waiting, marks-ready, room}
use Rattle.turn_core.proofs.turns.Turns.mark.Goals as goal

-- the state that the fields hold
abbrev state : Inside → Core
state t = record { graph = t.dag.now; marked = t.marked.items; handed = t.handed.items }

pub invariant_of-self : goal.invariant_of-self
invariant_of-self c =
    let t = c.self.inside in
    let may = subst (λ (x : Core). MayMark x c.args.edge) (sym c.self.view_is) c.requires in
    let mark = a_mark (state t) t.missing.items t.queue.items t.len c.args.edge c.index.result.now c.self.invariant may c.index.ensures c.if-index.false in
    marks-terminal (state t) t.missing.items t.queue.items t.len c.args.edge mark (sym c.target-target.ensures ∙ c.if-target.true)

pub overflow_sub-left : goal.overflow_sub-left
overflow_sub-left c =
    let t = c.self.inside in
    let may = subst (λ (x : Core). MayMark x c.args.edge) (sym c.self.view_is) c.requires in
    let mark = a_mark (state t) t.missing.items t.queue.items t.len c.args.edge c.index.result.now c.self.invariant may c.index.ensures c.if-index.false in
    let held = holds (state t) t.missing.items t.queue.items t.len c.args.edge c.target-target.result mark c.target-target.ensures c.if-target.false in
    let some = some_missing (state t) t.missing.items t.queue.items t.len c.args.edge c.target-target.result held in
    let read = counter (state t) t.missing.items t.queue.items t.len c.args.edge c.target-target.result c.index-2.result.now held c.index-2.ensures in
    omega (arith, some, read)

pub invariant_of-self-then-left-gt0 : goal.invariant_of-self-then-left-gt0
invariant_of-self-then-left-gt0 c =
    let t = c.self.inside in
    let may = subst (λ (x : Core). MayMark x c.args.edge) (sym c.self.view_is) c.requires in
    let mark = a_mark (state t) t.missing.items t.queue.items t.len c.args.edge c.index.result.now c.self.invariant may c.index.ensures c.if-index.false in
    let held = holds (state t) t.missing.items t.queue.items t.len c.args.edge c.target-target.result mark c.target-target.ensures c.if-target.false in
    let read = counter (state t) t.missing.items t.queue.items t.len c.args.edge c.target-target.result c.index-2.result.now held c.index-2.ensures in
    subst (λ (x : ℕ). IsTied (with_mark (state t) c.args.edge) (set t.missing.items c.target-target.result (x - 1)) t.queue.items t.len) (sym read)
    (marks-waiting (state t) t.missing.items t.queue.items t.len c.args.edge c.target-target.result held (omega (arith, read, c.if-left-gt0.true)))

pub index_mut-requires-3 : goal.index_mut-requires-3
index_mut-requires-3 c =
    let t = c.self.inside in
    let may = subst (λ (x : Core). MayMark x c.args.edge) (sym c.self.view_is) c.requires in
    let mark = a_mark (state t) t.missing.items t.queue.items t.len c.args.edge c.index.result.now c.self.invariant may c.index.ensures c.if-index.false in
    let held = holds (state t) t.missing.items t.queue.items t.len c.args.edge c.target-target.result mark c.target-target.ensures c.if-target.false in
    let some = some_missing (state t) t.missing.items t.queue.items t.len c.args.edge c.target-target.result held in
    let free = room (state t) t.missing.items t.queue.items t.len c.target-target.result c.self.invariant held.is_item some in
    omega (arith, free, c.self.invariant.places)

pub invariant_of-self-2 : goal.invariant_of-self-2
invariant_of-self-2 c =
    let t = c.self.inside in
    let may = subst (λ (x : Core). MayMark x c.args.edge) (sym c.self.view_is) c.requires in
    let mark = a_mark (state t) t.missing.items t.queue.items t.len c.args.edge c.index.result.now c.self.invariant may c.index.ensures c.if-index.false in
    let held = holds (state t) t.missing.items t.queue.items t.len c.args.edge c.target-target.result mark c.target-target.ensures c.if-target.false in
    let read = counter (state t) t.missing.items t.queue.items t.len c.args.edge c.target-target.result c.index-2.result.now held c.index-2.ensures in
    subst (λ (x : ℕ). IsTied (with_mark (state t) c.args.edge) (set t.missing.items c.target-target.result (x - 1)) (set t.queue.items t.len c.target-target.result) (t.len + 1)) (sym read)
    (marks-ready (state t) t.missing.items t.queue.items t.len c.args.edge c.target-target.result held (omega (arith, read, c.if-left-gt0.false)))
