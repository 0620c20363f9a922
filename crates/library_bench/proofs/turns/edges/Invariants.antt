use Rattle.std.proofs.Common.{◌≡◌, ◌*◌, vec_len}
use Rattle.library_bench.proofs.turns.edges.Given as goal

abbrev pub invariant-loop-source : goal.invariant-loop-source
invariant-loop-source l = vec_len l.edges ≡ 2 * l.source
