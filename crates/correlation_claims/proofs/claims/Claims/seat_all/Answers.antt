use Rattle.std.proofs.lemmas.List.Elements.{All-push, All-same}
use Rattle.correlation_claims.specs.Seats.{IsSeatOf, IsNew}
use Rattle.correlation_claims.proofs.Benches.{is_seat, is_new}
use Rattle.correlation_claims.proofs.claims.Claims.seat_all.Goals as goal

pub returns-clause-seats : goal.returns-clause-seats
returns-clause-seats c =
    let claims = c.args.self.now in let last = is_seat claims c.seat_most.new.bench c.into_seat.result c.in_ok-seat_most.ensures.bench c.into_seat.ensures in
    All-same (IsSeatOf claims) _ _ c.in_ok-push.ensures.items (All-push (IsSeatOf claims) _ c.into_seat.result c.in_ok-seat_most.ensures.seats last)

pub returns-clause-new : goal.returns-clause-new
returns-clause-new c =
    let last = is_new c.args.self.now c.seat_most.new.bench c.into_seat.result c.in_ok-seat_most.ensures.bench c.into_seat.ensures in
    All-same IsNew _ _ c.in_ok-push.ensures.items (All-push IsNew _ c.into_seat.result c.in_ok-seat_most.ensures.new last)
