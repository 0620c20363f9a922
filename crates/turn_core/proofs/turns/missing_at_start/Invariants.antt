use Rattle.turn_core.proofs.Fresh.{AreMissingTo}
use Rattle.turn_core.proofs.turns.missing_at_start.Given as goal

abbrev pub invariant-loop-item : goal.invariant-loop-item
invariant-loop-item l = AreMissingTo l.dag l.missing.items l.item
