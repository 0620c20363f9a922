-- What one ask for at least one correlation answers, and what it adds to the asks of its seat.
use Rattle.std.specs.Prelude.{◌≡◌, ℕ, ◌+◌, ◌<◌, ◌≤◌, List, [], ◌∷◌, ◌++◌, Option, None, Some}
use Rattle.share_types.specs.declared.needs.Kind.{Kind}
use Rattle.share_types.specs.declared.needs.TooFew.{TooFew}
use Rattle.correlation_claims.specs.declared.asks.Ask.{Ask}
use Rattle.correlation_claims.specs.declared.asks.Range.{Range}
use Rattle.correlation_claims.specs.Asks.{ask}

-- it is granted: the range ends within the stock, and the ask at its first number is the one more
pub record Grants (stock job n : ℕ) (before after : List Ask) (refusal : Option TooFew) (r : Range)
    : Type 0 where
  pub count : r.count ≡ n
  pub within : r.first + n ≤ stock
  pub asks : after ≡ before ++ ask job r.first n ∷ []
  pub open_yet : refusal ≡ None

-- it is refused: the ask behind what was asked for before would end beyond the stock. It is the one
-- more all the same, and the seat keeps the refusal
pub record Refuses (stock job : ℕ) (kind : Kind) (n : ℕ) (before after : List Ask)
    (refusal : Option TooFew) (few : TooFew) : Type 0 where
  pub of_kind : few.kind ≡ kind
  pub count : few.asked ≡ n
  pub of_stock : few.stock ≡ stock
  pub beyond : stock < few.before + n
  pub asks : after ≡ before ++ ask job few.before n ∷ []
  pub kept : refusal ≡ Some few
