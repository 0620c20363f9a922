-- The claims, and the seats at them, seen kind by kind.
use Rattle.std.specs.Prelude.{◌≡◌, ℕ, List, [], ◌∷◌, ◌++◌, Option, None}
use Rattle.atomic_table.specs.declared.shared.Seat.{Seat}
use Rattle.share_types.specs.declared.needs.Kind.{Kind}
use Rattle.share_types.specs.declared.needs.Kind.TheVariants.{Mult, Bit, Shared, Key}
use Rattle.share_types.specs.declared.needs.Needs.{Needs}
use Rattle.share_types.specs.declared.needs.TooFew.{TooFew}
use Rattle.correlation_claims.specs.declared.asks.Ask.{Ask}
use Rattle.correlation_claims.specs.declared.claims.Bench.{Bench}
use Rattle.correlation_claims.specs.declared.claims.ClaimSeat.{ClaimSeat}
use Rattle.correlation_claims.specs.declared.claims.Claims.{Claims}
use Rattle.correlation_claims.specs.declared.counter.Counter.{Counter}
use Rattle.correlation_claims.specs.declared.counter.Hand.{Hand}
use Rattle.correlation_claims.specs.declared.place.Place.{Place}
use Rattle.correlation_claims.specs.Places.{IsPlaceOf, IsChairOf}

-- it holds of each kind
pub record EachKind (P : Kind → Type 0) : Type 0 where
  pub mult : P Mult
  pub bit : P Bit
  pub shared : P Shared
  pub key : P Key

abbrev pub counter_at : Claims → Kind → Counter
counter_at claims Mult = claims.mult
counter_at claims Bit = claims.bit
counter_at claims Shared = claims.shared
counter_at claims Key = claims.key

abbrev pub place_at : ClaimSeat → Kind → Place
place_at seat Mult = seat.mult
place_at seat Bit = seat.bit
place_at seat Shared = seat.shared
place_at seat Key = seat.key

abbrev pub chair_at : Bench → Kind → Seat (Unit {0}) Hand
chair_at bench Mult = bench.mult
chair_at bench Bit = bench.bit
chair_at bench Shared = bench.shared
chair_at bench Key = bench.key

-- the stock that the claims hand out
abbrev pub stock_of : Claims → Needs
stock_of claims = record {
  mult = claims.mult.stock;
  bit = claims.bit.stock;
  shared = claims.shared.stock;
  key = claims.key.stock;
}

-- for how many seats the claims are
abbrev pub seats_of : Claims → ℕ
seats_of claims = claims.mult.table.shared.key.seats

-- what the seat has asked for of the kind, in order, granted or not
abbrev pub asks_of : ClaimSeat → Kind → List Ask
asks_of seat kind = (place_at seat kind).seat.me.0.asks

-- with what the seat was refused the kind, if it was
abbrev pub refusal_of : ClaimSeat → Kind → Option TooFew
refusal_of seat kind = (place_at seat kind).refused

-- the stock of the kind of which the seat asks
abbrev pub stock_at : ClaimSeat → Kind → ℕ
stock_at seat kind = (place_at seat kind).seat.me.0.stock

-- what the seats have asked for of the kind, seat by seat
abbrev pub all_asks : Kind → List ClaimSeat → List Ask
all_asks kind [] = []
all_asks kind (seat ∷ rest) = asks_of seat kind ++ all_asks kind rest

-- the seat is one of these claims
abbrev pub IsSeatOf : Claims → ClaimSeat → Type 0
IsSeatOf claims seat = EachKind (λ kind. IsPlaceOf (counter_at claims kind) (place_at seat kind))

-- the seat has asked for nothing
abbrev pub IsNew : ClaimSeat → Type 0
IsNew seat = EachKind (λ kind. (asks_of seat kind ≡ []) × (refusal_of seat kind ≡ None))

-- nothing changes at the other kinds
abbrev pub ChangesOnly : Kind → ClaimSeat → ClaimSeat → Type 0
ChangesOnly kind old new = (other : Kind) → ¬ (other ≡ kind)
    → (asks_of new other ≡ asks_of old other) × (refusal_of new other ≡ refusal_of old other)

abbrev pub parts_of : Bench → ℕ
parts_of bench = bench.mult.me.0.parts

abbrev pub bench_asks : Bench → Kind → List Ask
bench_asks bench kind = (chair_at bench kind).me.0.asks

-- the bench has so many parts of each kind, and these asks
abbrev pub IsBenchOf : Claims → ℕ → (Kind → List Ask) → Bench → Type 0
IsBenchOf claims parts asks bench =
    EachKind (λ kind. IsChairOf (counter_at claims kind) parts (asks kind) (chair_at bench kind))
