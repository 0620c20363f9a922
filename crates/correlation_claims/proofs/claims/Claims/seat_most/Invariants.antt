use Rattle.std.proofs.Common.{◌≡◌, ◌+◌, ◌-◌, [], length}
use Rattle.std.specs.List.{All}
use Rattle.correlation_claims.specs.Seats.{IsBenchOf, IsSeatOf, IsNew}
use Rattle.correlation_claims.proofs.claims.Claims.seat_most.Given as goal

abbrev pub invariant-loop-place : goal.invariant-loop-place
invariant-loop-place l = record {
  bench : IsBenchOf l.self (l.seats - length l.list.items) (λ _. []) l.bench;
  count : length l.list.items + 1 ≡ l.place;
  seats : All (IsSeatOf l.self) l.list.items;
  new : All IsNew l.list.items;
}
