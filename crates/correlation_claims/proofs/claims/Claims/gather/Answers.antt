use Rattle.std.proofs.Common.{Some, arith}
use Rattle.std.proofs.lemmas.List.Elements.{All-pop}
use Rattle.correlation_claims.specs.Seats.{IsSeatOf, asks_of}
use Rattle.correlation_claims.proofs.Benches.{is_bench, own, first_asks, more_asks, length-snoc}
use Rattle.correlation_claims.proofs.claims.Claims.gather.Goals as goal

pub loop-seat-init : goal.loop-seat-init
loop-seat-init c =
    let claims = c.args.self.now in let bench = c.into_bench-bench.result in let last = c.in-Some.last in let seats = c.args.seats.items in let rest = c.pop.new.self.items in
    let e = c.in-Some.ensures.items in let all = All-pop (IsSeatOf claims) seats rest (Some last) e c.requires.seats in
    let b = is_bench claims last bench all.1 c.into_bench-bench.ensures in let one = b.mult.has_parts in let l = length-snoc seats rest last e in record {
      bench = own claims 1 (asks_of last) bench b;
      parts = omega arith;
      some = omega arith;
      asks = first_asks claims 1 bench seats rest last b e;
      seats = all.0;
    }

pub take_in-requires-clause-seat : goal.take_in-requires-clause-seat
take_in-requires-clause-seat c =
    (All-pop (IsSeatOf c.args.self.now) c.loop-seat.seats.items c.pop-in-loop-seat.new.self.items (Some c.in-Some-pop.seat) c.in-Some-pop.ensures.items c.loop-seat.invariant.seats).1

pub loop-seat-preserved : goal.loop-seat-preserved
loop-seat-preserved c =
    let claims = c.args.self.now in let old = c.loop-seat.bench in let bench = c.take_in.new.bench in let seat = c.in-Some-pop.seat in let seats = c.loop-seat.seats.items in let rest = c.pop-in-loop-seat.new.self.items in
    let e = c.in-Some-pop.ensures.items in let all = All-pop (IsSeatOf claims) seats rest (Some seat) e c.loop-seat.invariant.seats in
    let b = c.take_in.ensures in let more = b.mult.has_parts in let l = length-snoc seats rest seat e in let so_far = c.loop-seat.invariant.parts in record {
      bench = own claims _ _ bench b;
      parts = omega arith;
      some = omega arith;
      asks = more_asks claims _ old bench c.args.seats.items seats rest seat b e c.loop-seat.invariant.asks;
      seats = all.0;
    }
