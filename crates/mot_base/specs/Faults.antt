-- Counts of calls and of faults. They are kept in 64 bits, and stand still at their greatest
-- number.
use Rattle.std.specs.Prelude.{ℕ, ◌+◌, ◌-◌, ◌^◌, ◌≤◌, min}

-- the count after one more
abbrev pub one_more : ℕ → ℕ
one_more count = min (count + 1) (2 ^ 64 - 1)

-- the count rose between two moments, or stands at its greatest number: `before < now`, or `now` is
-- the greatest number of 64 bits
abbrev pub Rose : ℕ → ℕ → Type 0
Rose before now = one_more before ≤ now
