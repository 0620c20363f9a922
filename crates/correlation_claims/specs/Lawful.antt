-- When asks of one kind are lawful.
use Rattle.std.specs.Prelude.{◌≡◌, ℕ, ◌≤◌, nat_lt, List, All}
use Rattle.correlation_claims.specs.declared.asks.Ask.{Ask}
use Rattle.correlation_claims.specs.Asks.{once, covers, count_all}

-- each ask is for something, and each place below the sum of the asks lies in exactly one of them,
-- and no other place in any: their intervals do not meet, and together they are all places below
-- the sum
pub record AreLawful (asks : List Ask) : Type 0 where
  pub some : All (λ a. 1 ≤ a.count) asks
  pub covered : (x : ℕ) → covers x asks ≡ once (nat_lt x (count_all asks))
