-- Workers side by side.
use Rattle.std.specs.Prelude.{◌≡◌, ℕ, ◌<◌, List, [], ◌∷◌, map, length, Option, Some, Vec}
use Rattle.std.specs.Global.{Global}
use mathlib.Core.Option.{some}
use lib.ListN.{get_elem?}
use Rattle.atomic_table.specs.Table.{State}
use Rattle.atomic_table.specs.Seated.{TableId}
use Rattle.atomic_table.specs.declared.shared.Seat.{Seat}
use Rattle.turn_core.specs.declared.edge.Edge.{Edge}
use Rattle.pool_workers.specs.declared.shift.Shift.{Shift}
use Rattle.pool_workers.specs.declared.view.View.{View}
use Rattle.pool_workers.specs.Sums.{times, target_at}
use Rattle.pool_workers.specs.Slots.{Kept}
use Rattle.pool_workers.specs.Steps.{IsIdle}

-- a worker between two items, with its one part, and the list of what it ran
pub record HasWorked {E : Type 0} (edges : List Edge) (id : TableId) (s : Seat (Option E) View)
    (ran : List ℕ) : Type 0 where
  pub table : s.table_id ≡ id
  pub idle : IsIdle edges s.me
  pub one : s.me.0.parts ≡ 1
  pub took : (x : ℕ) → times x ran ≡ times x s.me.0.took

-- the same of a worker beside its hints, each of which is below the number of items
abbrev pub IsShift : {E H : Type 0} → List Edge → TableId → ℕ → (H → ℕ) → Shift E H → Type 0
IsShift edges id items bound s =
    HasWorked edges id s.worker s.ran.items × (bound s.hints ≡ items)

-- what each worker ran
abbrev pub lists : List (Vec ℕ Global) → List (List ℕ)
lists ran = map (λ v. v.items) ran

-- each number is below n
abbrev pub AreItems : ℕ → List ℕ → Type 0
AreItems n [] = Unit {0}
AreItems n (x ∷ xs) = (x < n) × AreItems n xs

-- the pool was taken apart in a state that meets the rule, and in which the worker knows v
pub record Closes {E : Type 0} (items : ℕ) (edges : List Edge) (means : ℕ → E → Type 0) (v : View)
    (values : List (Option E)) : Type 0 where
  pub state : State (Option E) View
  pub kept : Kept items edges means state
  pub id : ℕ
  pub at : get_elem? state.views id ≡ some v
  pub home : (k : ℕ) (y : Option E) → get_elem? state.homes k ≡ some (some y) →
      get_elem? values k ≡ some y

-- each edge that ends at no item has its meaning among the values
abbrev pub AreEnds : {E : Type 0} → List Edge → (ℕ → E → Type 0) → List (Option E) → Type 0
AreEnds {E} edges means values = (e : ℕ) → e < length edges → target_at edges e ≡ 4294967295 →
    (x : E) × (get_elem? values e ≡ some (Some x)) × means e x
