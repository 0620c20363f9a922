use Rattle.pool_workers.proofs.Starts.{AreCounts}
use Rattle.pool_workers.proofs.start.words_at_start.Given as goal

abbrev pub invariant-loop-item : goal.invariant-loop-item
invariant-loop-item l = AreCounts l.dag.edges l.item l.words.items
