-- Values under numbers.
use Rattle.std.specs.Prelude.{◌≡◌, ◌≢◌, ℕ, ◌<◌, List, length, map, get_or, Option, None}
use Rattle.slab.specs.Slab.{Slab, get}
use Rattle.task_pool.specs.declared.shelf.TheConstants.{NOWHERE}

-- the value under each number, where its key tells
abbrev pub on_shelf : {E : Type 0} → Slab E → List ℕ → List (Option E)
on_shelf values keys = map (get values) keys

-- each key is that of a value, and of no other number, or it tells that there is none
pub record AreKeys {E : Type 0} (values : Slab E) (keys : List ℕ) : Type 0 where
  pub nowhere : get values NOWHERE ≡ None
  pub full : (i : ℕ) → i < length keys → get_or keys i 0 ≢ NOWHERE → get values (get_or keys i 0) ≢ None
  pub apart : (i j : ℕ) → i < j → j < length keys →
      get_or keys i 0 ≡ get_or keys j 0 → get_or keys i 0 ≡ NOWHERE
