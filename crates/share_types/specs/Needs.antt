-- Counts of correlations by kind.
use Rattle.std.specs.Prelude.{ℕ, ◌+◌, ◌<◌, ◌≤◌}
use Rattle.share_types.specs.declared.needs.Needs.{Needs}
use Rattle.share_types.specs.declared.needs.Kind.{Kind}
use Rattle.share_types.specs.declared.needs.Kind.TheVariants.{Mult, Bit, Shared, Key}

-- the count of a kind
abbrev pub count_of : Needs → Kind → ℕ
count_of needs Mult = needs.mult
count_of needs Bit = needs.bit
count_of needs Shared = needs.shared
count_of needs Key = needs.key

-- no correlation
abbrev pub no_needs : Needs
no_needs = record { mult = 0; bit = 0; shared = 0; key = 0 }

-- what is needed together
abbrev pub sum_of_needs : Needs → Needs → Needs
sum_of_needs n m = record {
  mult = n.mult + m.mult;
  bit = n.bit + m.bit;
  shared = n.shared + m.shared;
  key = n.key + m.key;
}

-- the place of a kind in their order
abbrev pub place_of : Kind → ℕ
place_of Mult = 0
place_of Bit = 1
place_of Shared = 2
place_of Key = 3

-- of this kind more are needed than there are, and of no earlier one
pub record IsFirstShort (needs stock : Needs) (kind : Kind) : Type 0 where
  pub short : count_of stock kind < count_of needs kind
  pub earlier : (other : Kind) → place_of other < place_of kind → count_of needs other ≤ count_of stock other
