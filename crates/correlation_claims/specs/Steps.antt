-- The rule of the counter of one kind, and what its steps do to the views.
use Rattle.std.specs.Prelude.{◌≡◌, ℕ, ◌+◌, ◌^◌, ◌<◌, ◌≤◌, nat_lt, List, [], ◌∷◌, ◌++◌, length, slice_index, All}
use mathlib.Core.Option.{some}
use lib.ListN.{get_elem?}
use Rattle.atomic_table.specs.Table.{State, Me, Step}
use Rattle.correlation_claims.specs.declared.asks.Ask.{Ask}
use Rattle.correlation_claims.specs.declared.counter.Hand.{Hand}
use Rattle.correlation_claims.specs.declared.counter.Stock.{Stock}
use Rattle.correlation_claims.specs.Asks.{ask, once, covers, count_all, count_refused, refusals_in}

abbrev pub hand : ℕ → ℕ → List Ask → Hand
hand stock parts asks = record { stock = stock; parts = parts; asks = asks }

-- f of each view, added up
abbrev pub total : {V : Type 0} → (V → ℕ) → List V → ℕ
total f [] = 0
total f (v ∷ vs) = f v + total f vs

-- what holds of one view: it has at most as many refused asks as parts, and without a part no ask
pub record Fits (key : Stock) (v : Hand) : Type 0 where
  pub stock : 0 < v.parts → v.stock ≡ key.stock
  pub sizes : All (λ a. (1 ≤ a.count) × (a.count < 2 ^ 32)) v.asks
  pub few : refusals_in key.stock v.asks ≤ v.parts
  pub idle : v.parts ≡ 0 → v.asks ≡ []

-- the rule: each place below the word lies in one ask of one view, and no other place in any; the
-- asks add up to the word, which is above the stock by no more than what was refused; and no part is
-- lost
pub record Lawful (key : Stock) (s : State (Unit {0}) Hand) : Type 0 where
  pub wide : length s.words ≡ 1
  pub limits : (key.stock < 2 ^ 32) × (key.seats ≤ 16)
  pub covered : (x : ℕ)
      → total (λ v. covers x v.asks) s.views ≡ once (nat_lt x (slice_index s.words 0))
  pub summed : total (λ v. count_all v.asks) s.views ≡ slice_index s.words 0
  pub small : slice_index s.words 0
      ≤ key.stock + total (λ v. count_refused key.stock v.asks) s.views
  pub parts : total (λ v. v.parts) s.views ≡ key.seats
  pub each : (id : ℕ) (v : Hand) → get_elem? s.views id ≡ some v → Fits key v

-- a view after one ask more
abbrev pub more : Hand → ℕ → ℕ → ℕ → Hand
more v job before count = hand v.stock v.parts (v.asks ++ ask job before count ∷ [])

-- two views as one, the other's asks first
abbrev pub together : Hand → Hand → Hand
together v w = hand v.stock (v.parts + w.parts) (w.asks ++ v.asks)

-- what an ask tells: the seat has it behind its other asks, at the number that was found, which is no
-- less than they are
abbrev pub claimed : ℕ → Step (Unit {0}) → Me (Unit {0}) Hand → ℕ → Me (Unit {0}) Hand → Type 0
claimed job st me n after =
    (after ≡ (more me.0 job n st.first, me.1)) × (n + st.first < 2 ^ 64) × (length me.0.asks ≤ n)
