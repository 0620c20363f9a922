use Rattle.std.proofs.Common.{◌≡◌, vec_len}
use Rattle.base_tests.proofs.turns.graph.Given as goal

abbrev pub invariant-loop-source : goal.invariant-loop-source
invariant-loop-source l = vec_len l.edges ≡ l.source-index
