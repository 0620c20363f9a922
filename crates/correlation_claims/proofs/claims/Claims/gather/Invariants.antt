use Rattle.std.proofs.Common.{◌≡◌, ◌+◌, ◌<◌, ◌++◌, length}
use Rattle.std.specs.List.{All}
use Rattle.correlation_claims.specs.Seats.{EachKind, IsBenchOf, IsSeatOf, all_asks, bench_asks, parts_of}
use Rattle.correlation_claims.proofs.claims.Claims.gather.Given as goal

abbrev pub invariant-loop-seat : goal.invariant-loop-seat
invariant-loop-seat l = record {
  bench : IsBenchOf l.self (parts_of l.bench) (bench_asks l.bench) l.bench;
  parts : parts_of l.bench + length l.seats.items ≡ length l.fn.seats.items;
  some : 0 < parts_of l.bench;
  asks : EachKind (λ kind. all_asks kind l.seats.items ++ bench_asks l.bench kind ≡ all_asks kind l.fn.seats.items);
  seats : All (IsSeatOf l.self) l.seats.items;
}

abbrev pub decreases-loop-seat : goal.decreases-loop-seat
decreases-loop-seat l = length l.seats.items
