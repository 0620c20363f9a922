use Rattle.std.proofs.Common.{ℕ, ◌-◌, ◌<◌, ◌≤◌, Bool, List, length, get_or, subst, arith}
use Rattle.std.proofs.lemmas.List.{get_or_read}
use Rattle.turn_core.specs.declared.turns.Turns.TheInside.{Inside}
use Rattle.turn_core.specs.Core.{Core, IsIn, IsOut, IsReady}
use Rattle.turn_core.specs.Counters.{IsTied}
use Rattle.turn_core.proofs.Ties.{drops, last_ready, none_ready}
use Rattle.turn_core.proofs.turns.Turns.queued.Goals as goal

-- the state that the fields hold
abbrev state : Inside → Core
state t = record { graph = t.dag.now; marked = t.marked.items; handed = t.handed.items }

pub returns-then-self-eq0-clause-none : goal.returns-then-self-eq0-clause-none
returns-then-self-eq0-clause-none c =
    let t = c.self.inside in
    let left = c.places_left-self-inside.result in
    let told = c.places_left-self-inside.ensures in
    let dropped : (i : ℕ) → left ≤ i → i < t.len → IsIn t.handed.items (get_or t.queue.items i 0) = λ i low high.
    subst (λ (xs : List ℕ). IsIn t.handed.items (get_or xs i 0)) c.deref.ensures.value
    (subst (λ (bs : List Bool). IsIn bs (get_or c.deref.result.now i 0)) c.deref-2.ensures.value (told.dropped i low high)) in
    let tied = drops (state t) t.missing.items t.queue.items t.len left c.self.invariant told.fewer dropped in
    let empty = subst (λ (n : ℕ). IsTied (state t) t.missing.items t.queue.items n) c.if-self-eq0.true tied in
    subst (λ (x : Core). (item : ℕ) → IsReady x item → ⊥) c.self.view_is (none_ready (state t) t.missing.items t.queue.items empty)

pub returns-clause-ready : goal.returns-clause-ready
returns-clause-ready c =
    let t = c.self.inside in
    let left = c.places_left-self-inside.result in
    let told = c.places_left-self-inside.ensures in
    let dropped : (i : ℕ) → left ≤ i → i < t.len → IsIn t.handed.items (get_or t.queue.items i 0) = λ i low high.
    subst (λ (xs : List ℕ). IsIn t.handed.items (get_or xs i 0)) c.deref.ensures.value
    (subst (λ (bs : List Bool). IsIn bs (get_or c.deref.result.now i 0)) c.deref-2.ensures.value (told.dropped i low high)) in
    let tied = drops (state t) t.missing.items t.queue.items t.len left c.self.invariant told.fewer dropped in
    let some : 0 < left = omega (arith, c.if-self-eq0.false) in
    let out : IsOut t.handed.items (get_or t.queue.items (left - 1) 0) =
    subst (λ (xs : List ℕ). IsOut t.handed.items (get_or xs (left - 1) 0)) c.deref.ensures.value
    (subst (λ (bs : List Bool). IsOut bs (get_or c.deref.result.now (left - 1) 0)) c.deref-2.ensures.value (told.last (left - 1) (omega (arith, some)))) in
    let fits : left - 1 < length t.queue.items = omega (arith, some, tied.room, tied.places) in
    let read = get_or_read t.queue.items (left - 1) c.index.result.now fits c.index.ensures 0 in
    subst (λ (x : Core). IsReady x c.index.result.now) c.self.view_is
    (last_ready (state t) t.missing.items t.queue.items left c.index.result.now tied some out read)
