use Rattle.std.proofs.Common.{ℕ, ◌<◌, ◌≤◌, get_or}
use Rattle.turn_core.specs.Core.{IsIn}
use Rattle.turn_core.proofs.turns.places_left.Given as goal

abbrev pub invariant-loop-left : goal.invariant-loop-left
invariant-loop-left l =
    (l.left ≤ l.len) × ((i : ℕ) → l.left ≤ i → i < l.len → IsIn l.handed (get_or l.queue i 0))

abbrev pub decreases-loop-left : goal.decreases-loop-left
decreases-loop-left l = l.left
