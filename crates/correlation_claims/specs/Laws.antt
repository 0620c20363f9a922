-- What the words for asks have to do with one another.
use Rattle.std.specs.Prelude.{◌≡◌, ℕ, true, List, [], ◌∷◌, ◌++◌, Contains, slice_index}
use mathlib.Core.Option.{some}
use lib.ListN.{get_elem?}
use Rattle.atomic_table.specs.Table.{State}
use Rattle.share_types.specs.declared.needs.Kind.{Kind}
use Rattle.correlation_claims.specs.declared.asks.Ask.{Ask}
use Rattle.correlation_claims.specs.declared.claims.ClaimSeat.{ClaimSeat}
use Rattle.correlation_claims.specs.declared.counter.Hand.{Hand}
use Rattle.correlation_claims.specs.declared.counter.Stock.{Stock}
use Rattle.correlation_claims.specs.Asks.{has, count_all}
use Rattle.correlation_claims.specs.Lawful.{AreLawful}
use Rattle.correlation_claims.specs.Seats.{asks_of, all_asks}
use Rattle.correlation_claims.specs.Steps.{Lawful}

-- no place lies in both
abbrev pub DoNotMeet : Ask → Ask → Type 0
DoNotMeet a b = (x : ℕ) → ¬ ((has a x ≡ true) × (has b x ≡ true))

-- the asks in all views
abbrev pub view_asks : List Hand → List Ask
view_asks [] = []
view_asks (v ∷ vs) = v.asks ++ view_asks vs

-- whenever the rule of a counter holds, as it does between any two steps, the asks in the views of
-- all its seats are lawful, and their sum is the counter
abbrev pub RuleIsLawful : Type 0
RuleIsLawful = (key : Stock) (s : State (Unit {0}) Hand) → Lawful key s
    → AreLawful (view_asks s.views) × (count_all (view_asks s.views) ≡ slice_index s.words 0)

-- then two asks in two views do not meet
abbrev pub ViewsDoNotMeet : Type 0
ViewsDoNotMeet = (key : Stock) (s : State (Unit {0}) Hand) → Lawful key s
    → (i j : ℕ) (v w : Hand) → ¬ (i ≡ j)
    → get_elem? s.views i ≡ some v → get_elem? s.views j ≡ some w
    → (a b : Ask) → Contains v.asks a → Contains w.asks b → DoNotMeet a b

-- two asks at two places of a lawful list do not meet
abbrev pub AsksDoNotMeet : Type 0
AsksDoNotMeet = (asks : List Ask) → AreLawful asks → (i j : ℕ) (a b : Ask) → ¬ (i ≡ j)
    → get_elem? asks i ≡ some a → get_elem? asks j ≡ some b → DoNotMeet a b

-- where the asks of all seats are lawful, two asks of two seats do not meet
abbrev pub SeatsDoNotMeet : Type 0
SeatsDoNotMeet = (kind : Kind) (seats : List ClaimSeat) → AreLawful (all_asks kind seats)
    → (i j : ℕ) (s t : ClaimSeat) → ¬ (i ≡ j)
    → get_elem? seats i ≡ some s → get_elem? seats j ≡ some t → (a b : Ask)
    → Contains (asks_of s kind) a → Contains (asks_of t kind) b → DoNotMeet a b
