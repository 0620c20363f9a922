-- The rule of a pool's slots: one for each edge.
use Rattle.std.specs.Prelude.{◌≡◌, ℕ, ◌<◌, ◌≤◌, List, length, Option, Some, None}
use mathlib.Core.Option.{some}
use mathlib.Core.Option as M
use lib.ListN.{get_elem?}
use Rattle.atomic_table.specs.Table.{State}
use Rattle.turn_core.specs.declared.edge.Edge.{Edge}
use Rattle.pool_workers.specs.declared.view.View.{View}
use Rattle.pool_workers.specs.Sums.{source_at, target_at}
use Rattle.pool_workers.specs.Words.{Words, takers, givers}

-- an edge's slot, where its source has so many takers, itself so many givers, and its target so many
-- takers
pub record Cell {E : Type 0} (mean : E → Type 0) (source given target : ℕ)
    (home : M.Option (M.Option (Option E))) : Type 0 where
  pub empty : source ≡ 0 → home ≡ some (some None)
  pub full : 1 ≤ given → target ≡ 0 → (x : E) × (home ≡ some (some (Some x))) × mean x

pub record Kept {E : Type 0} (items : ℕ) (edges : List Edge) (means : ℕ → E → Type 0)
    (s : State (Option E) View) : Type 0 where
  pub words : Words items edges s.words s.views
  pub slots : length s.homes ≡ length edges
  pub cells : (e : ℕ) → e < length edges →
      Cell (means e) (takers s.views (source_at edges e)) (givers s.views e)
      (takers s.views (target_at edges e)) (get_elem? s.homes e)
