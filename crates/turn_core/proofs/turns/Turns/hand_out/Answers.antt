use Rattle.std.proofs.Common.{sym, subst}
use Rattle.turn_core.specs.declared.turns.Turns.TheInside.{Inside}
use Rattle.turn_core.specs.Core.{Core, IsReady}
use Rattle.turn_core.proofs.Ties.{hands_out}
use Rattle.turn_core.proofs.turns.Turns.hand_out.Goals as goal

-- the state that the fields hold
abbrev state : Inside → Core
state t = record { graph = t.dag.now; marked = t.marked.items; handed = t.handed.items }

pub invariant_of-self : goal.invariant_of-self
invariant_of-self c =
    let t = c.self.inside in
    let ready = subst (λ (x : Core). IsReady x c.args.item) (sym c.self.view_is) c.requires in
    hands_out (state t) t.missing.items t.queue.items t.len c.args.item c.self.invariant ready
