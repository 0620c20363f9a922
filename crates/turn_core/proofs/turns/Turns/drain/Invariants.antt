use Rattle.std.proofs.Common.{◌≡◌}
use Rattle.turn_core.specs.Core.{left_of}
use Rattle.turn_core.proofs.Draining.{IsDraining}
use Rattle.turn_core.proofs.turns.Turns.drain.Given as goal

abbrev pub invariant-loop-item : goal.invariant-loop-item
invariant-loop-item g l =
    IsDraining l.fn.self l.self (g.W.DrainWork.graph l.work) (g.W.DrainWork.turned l.work)
    (g.W.DrainWork.count l.work) (g.W.DrainWork.count l.fn.work) l.steps l.fn.steps l.turns
    × (g.W.DrainWork.graph l.work ≡ g.W.DrainWork.graph l.fn.work)
    × (g.W.DrainWork.made l.work ≡ g.W.DrainWork.made l.fn.work)

abbrev pub decreases-loop-item : goal.decreases-loop-item
decreases-loop-item g l = left_of l.self.handed
