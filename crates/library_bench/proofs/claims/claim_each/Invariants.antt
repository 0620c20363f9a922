use Rattle.correlation_claims.specs.Seats.{IsSeatOf}
use Rattle.library_bench.proofs.claims.claim_each.Given as goal

abbrev pub invariant-loop-job : goal.invariant-loop-job
invariant-loop-job l = IsSeatOf l.claims l.seat
