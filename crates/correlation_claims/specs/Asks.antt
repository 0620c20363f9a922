-- Asks for correlations of one kind: each is an interval of places, behind all that was asked for
-- before it.
use Rattle.std.specs.Prelude.{ℕ, ◌+◌, Bool, cond, ◌&&◌, nat_lt, nat_le, List, [], ◌∷◌}
use Rattle.correlation_claims.specs.declared.asks.Ask.{Ask}
use Rattle.correlation_claims.specs.declared.asks.Range.{Range}

abbrev pub ask : ℕ → ℕ → ℕ → Ask
ask job before count = record { job = job; before = before; count = count }

abbrev pub range : ℕ → ℕ → Range
range first count = record { first = first; count = count }

-- 1 where the test passes
abbrev pub once : Bool → ℕ
once b = cond b 1 0

-- the place lies in the ask's interval
abbrev pub has : Ask → ℕ → Bool
has a x = nat_le a.before x && nat_lt x (a.before + a.count)

-- an ask is granted exactly where it ends within the stock
abbrev pub is_granted : ℕ → Ask → Bool
is_granted stock a = nat_le (a.before + a.count) stock

-- in how many of the asks the place x lies
abbrev pub covers : ℕ → List Ask → ℕ
covers x [] = 0
covers x (a ∷ rest) = once (has a x) + covers x rest

-- how many correlations were asked for
abbrev pub count_all : List Ask → ℕ
count_all [] = 0
count_all (a ∷ rest) = a.count + count_all rest

-- how many correlations were asked for and refused
abbrev pub count_refused : ℕ → List Ask → ℕ
count_refused stock [] = 0
count_refused stock (a ∷ rest) = cond (is_granted stock a) 0 a.count + count_refused stock rest

-- how many of the asks were refused
abbrev pub refusals_in : ℕ → List Ask → ℕ
refusals_in stock [] = 0
refusals_in stock (a ∷ rest) = cond (is_granted stock a) 0 1 + refusals_in stock rest

-- how many of the asks were granted
abbrev pub grants_in : ℕ → List Ask → ℕ
grants_in stock [] = 0
grants_in stock (a ∷ rest) = once (is_granted stock a) + grants_in stock rest

-- the range of the last ask that was granted, or else the given one
abbrev pub last_from : ℕ → Range → List Ask → Range
last_from stock r [] = r
last_from stock r (a ∷ rest) =
    last_from stock (cond (is_granted stock a) (range a.before a.count) r) rest

-- the range of the last ask that was granted, or the empty one
abbrev pub last_grant : ℕ → List Ask → Range
last_grant stock asks = last_from stock (range 0 0) asks
