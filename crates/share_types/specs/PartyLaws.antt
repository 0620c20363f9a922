-- What parties have, as a list and by the party's number.
use Rattle.std.specs.Prelude.{◌≡◌, ℕ}
use Rattle.share_types.specs.Sums.{total, xor_total, sum_to, xor_to, each}

abbrev pub TotalIsSum : Type 0
TotalIsSum = (n : ℕ) (f : ℕ → ℕ) → total (each n f) ≡ sum_to n f

abbrev pub XorTotalIsXor : Type 0
XorTotalIsXor = (n : ℕ) (f : ℕ → ℕ) → xor_total (each n f) ≡ xor_to n f
