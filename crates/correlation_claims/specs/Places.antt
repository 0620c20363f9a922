-- A seat at the counter of one kind.
use Rattle.std.specs.Prelude.{◌≡◌, ℕ, List, []}
use Rattle.atomic_table.specs.declared.shared.Seat.{Seat}
use Rattle.correlation_claims.specs.declared.asks.Ask.{Ask}
use Rattle.correlation_claims.specs.declared.counter.Hand.{Hand}
use Rattle.correlation_claims.specs.declared.counter.Counter.{Counter}
use Rattle.correlation_claims.specs.declared.place.Place.{Place}

-- the seat is one of this counter
abbrev pub IsPlaceOf : Counter → Place → Type 0
IsPlaceOf counter place =
    (place.seat.table_id ≡ counter.table.shared.table_id)
    × (place.seat.me.0.stock ≡ counter.stock)

-- the seat is one of this counter, has so many parts and these asks
pub record IsChairOf (counter : Counter) (parts : ℕ) (asks : List Ask)
    (chair : Seat (Unit {0}) Hand) : Type 0 where
  pub table : chair.table_id ≡ counter.table.shared.table_id
  pub stock : chair.me.0.stock ≡ counter.stock
  pub has_parts : chair.me.0.parts ≡ parts
  pub has_asks : chair.me.0.asks ≡ asks
  pub no_slot : chair.me.1 ≡ []

-- a counter of that stock, at which nothing was asked for yet, and its one seat with all parts
pub record IsOpened (stock seats : ℕ) (opened : Counter × Seat (Unit {0}) Hand) : Type 0 where
  pub of_stock : opened.0.stock ≡ stock
  pub for_seats : opened.0.table.shared.key.seats ≡ seats
  pub chair : IsChairOf opened.0 seats [] opened.1
