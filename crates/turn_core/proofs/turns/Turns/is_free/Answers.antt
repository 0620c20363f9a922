use Rattle.std.proofs.Common.{◌≡◌, ◌<◌, false, length, get_or, sym, ◌∙◌, subst, arith}
use Rattle.std.proofs.lemmas.List.{get_or_read}
use Rattle.turn_core.specs.declared.turns.Turns.TheInside.{Inside}
use Rattle.turn_core.specs.Core.{Core, IsOut, IsReady}
use Rattle.turn_core.proofs.Ties.{is_ready}
use Rattle.turn_core.proofs.turns.Turns.is_free.Goals as goal
use Rattle.mot_base.proofs.Lists.{not_true as is_down}

-- the state that the fields hold
abbrev state : Inside → Core
state t = record { graph = t.dag.now; marked = t.marked.items; handed = t.handed.items }

pub returns : goal.returns
returns c up =
    let t = c.self.inside in
    let within : c.args.item < length t.missing.items = omega (arith, c.if-place-len.false, c.len.ensures) in
    let item : c.args.item < t.dag.now.items = omega (arith, within, c.self.invariant.counters) in
    let some = get_or_read t.missing.items c.args.item c.index.result.now within c.index.ensures 0 in
    let none : get_or t.missing.items c.args.item 0 ≡ 0 = omega (arith, some, c.if-index-gt0.false) in
    let flag = get_or_read t.handed.items c.args.item c.index-2.result.now (omega (arith, item, c.self.invariant.core.items)) c.index-2.ensures false in
    let out : IsOut t.handed.items c.args.item = sym flag ∙ is_down c.index-2.result.now up in
    subst (λ (x : Core). IsReady x c.args.item) c.self.view_is
    (is_ready (state t) t.missing.items t.queue.items t.len c.args.item c.self.invariant item none out)
