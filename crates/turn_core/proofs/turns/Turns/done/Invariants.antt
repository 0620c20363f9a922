use Rattle.std.proofs.Common.{◌≡◌, map, take}
use Rattle.turn_core.specs.Graph.{outgoing}
use Rattle.turn_core.specs.Core.{Leaves, after_all}
use Rattle.turn_core.proofs.turns.Turns.done.Given as goal

abbrev pub invariant-loop-edge : goal.invariant-loop-edge
invariant-loop-edge l =
    (l.edge-items ≡ outgoing l.fn.self.graph l.item)
    × (l.self ≡ after_all l.fn.self (map Leaves (take l.edge-index l.edge-items)))
