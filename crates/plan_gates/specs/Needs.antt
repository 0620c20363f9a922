-- How many correlations each gate needs, and which records are a gate's own.
use Rattle.std.specs.Prelude.{ℕ, zero, suc, ◌<◌, ◌≤◌, List, length, slice_get, Option, Some, None}
use Rattle.share_types.specs.declared.needs.Needs.{Needs}
use Rattle.share_types.specs.declared.needs.Kind as stock
use Rattle.share_types.specs.Needs.{count_of, no_needs, sum_of_needs}
use Rattle.share_types.specs.Sums.{each}
use Rattle.plan_gates.specs.Gate.{Kind, Gate, MulA, AndB, KeyMask, Garble, BToA}
use Rattle.plan_gates.specs.declared.draft.Sizes.{Sizes}
use Rattle.plan_gates.specs.Plan.{Gates, sizes_of}

-- what a gate needs: one triple for a product, a bit triple for each bit of an AND, a key record for each bit of a fresh
-- mask, both for each bit of a garbled table, and a shared bit for each bit of a vector that becomes a word
abbrev pub needs_of : Kind → Sizes → Needs
needs_of (MulA x y) sizes = record no_needs { mult = 1 }
needs_of (AndB x y) sizes = record no_needs { bit = sizes.width }
needs_of KeyMask sizes = record no_needs { key = sizes.width }
needs_of (Garble u v m) sizes = record no_needs { bit = sizes.width; key = sizes.width }
needs_of (BToA x) sizes = record no_needs { shared = sizes.low }
needs_of _ sizes = no_needs

-- what the gate at a place needs, if there is one
abbrev pub needs_there : Gates → Option Gate → Needs
needs_there plan None = no_needs
needs_there plan (Some gate) = needs_of gate.kind (sizes_of plan gate)

abbrev pub needs_at : Gates → ℕ → Needs
needs_at plan g = needs_there plan (slice_get plan.gates g)

-- what all gates before a place need: the records of the gate there are those behind
abbrev pub offset : Gates → ℕ → Needs
offset plan zero = no_needs
offset plan (suc g) = sum_of_needs (offset plan g) (needs_at plan g)

-- what all gates before each one need
abbrev pub offsets_of : Gates → List Needs
offsets_of plan = each (length plan.gates) (offset plan)

-- what all gates need
abbrev pub all_needs : Gates → Needs
all_needs plan = offset plan (length plan.gates)

-- the records of a gate end where those of any later gate begin, or before
abbrev pub RecordsNeverMeet : Type 0
RecordsNeverMeet =
    (plan : Gates) (earlier later : ℕ) (kind : stock.Kind) → earlier < later →
    count_of (sum_of_needs (offset plan earlier) (needs_at plan earlier)) kind ≤ count_of (offset plan later) kind
