-- Conversions keep the number, for any number of parties.
use Rattle.std.specs.Prelude.{◌≡◌, ℕ, ◌<◌, ◌%◌, ◌^◌}
use Rattle.share_types.specs.Sums.{sum_to, xor_to}
use Rattle.share_types.specs.Keys.{AreSharedBit}
use Rattle.share_types.specs.declared.records.SharedBit.{SharedBit}
use Rattle.bmr_keys.specs.Mask.{Mask}
use Rattle.bmr_keys.specs.Wires.{Active, IsActive}
use Rattle.share_convert.specs.Convert.{opened_share, covered_share, closed_word}

-- where a garbled wire recombines to x at every party, what the parties open of it are shares of x by XOR
abbrev pub KeysOpen : Type 0
KeysOpen =
    (n : ℕ) (offset : ℕ → ℕ) (u : ℕ → Mask) (x : ℕ) (a : ℕ → Active) → 0 < n →
    ((p : ℕ) → p < n → IsActive n offset u x (a p)) →
    xor_to n (λ p. opened_share p (u p).mask (a p).masked) ≡ x

-- with honest shared bits, and v what all parties opened, shares by XOR become shares by sum of the same number
abbrev pub BitsSum : Type 0
BitsSum =
    (n width : ℕ) (stock : ℕ → ℕ → SharedBit) (x : ℕ → ℕ) (v : ℕ) → 0 < n →
    ((k : ℕ) → k < width → AreSharedBit n (λ p. stock p k)) →
    ((p : ℕ) → p < n → x p < 2 ^ width) →
    v ≡ xor_to n (λ p. covered_share width (x p) (stock p)) →
    sum_to n (λ p. closed_word p width (stock p) v) % 2 ^ 64 ≡ xor_to n x % 2 ^ 64
