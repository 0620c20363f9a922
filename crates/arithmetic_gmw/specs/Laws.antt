-- What the parties' shares recombine to after each of them has made one call. What a party has is said by its number; for
-- lists of shares it follows by the sums over parties of `share_types`.
use Rattle.std.specs.Prelude.{◌≡◌, ℕ, ◌+◌, ◌*◌, ◌%◌, ◌^◌, ◌<◌}
use Rattle.share_types.specs.declared.records.MultTriple.{MultTriple}
use Rattle.share_types.specs.Sums.{word_sum, word_difference, word_product, sum_to}
use Rattle.arithmetic_gmw.specs.Shares.{raised_share, opened_left, opened_right, closed_share}

-- what so many parties have are shares of a word: they sum to it modulo 2^64
abbrev pub AreShares : ℕ → (ℕ → ℕ) → ℕ → Type 0
AreShares n share x = sum_to n share % 2 ^ 64 ≡ x % 2 ^ 64

-- the sums of the parties' shares of x and y are shares of their sum
abbrev pub SumRecombines : Type 0
SumRecombines =
    (n : ℕ) (f g : ℕ → ℕ) (x y : ℕ) → AreShares n f x → AreShares n g y →
    AreShares n (λ p. word_sum (f p) (g p)) (x + y)

-- the differences of the parties' shares of x and y are shares of their difference
abbrev pub DifferenceRecombines : Type 0
DifferenceRecombines =
    (n : ℕ) (f g : ℕ → ℕ) (x y : ℕ) → AreShares n f x → AreShares n g y →
    AreShares n (λ p. word_difference (f p) (g p)) (word_difference x y)

-- the parties' shares of x, each times c, are shares of x times c
abbrev pub ScaledRecombines : Type 0
ScaledRecombines =
    (n : ℕ) (f : ℕ → ℕ) (x c : ℕ) → AreShares n f x → AreShares n (λ p. word_product (f p) c) (x * c)

-- the parties' shares of x, raised by c at party 0 alone, are shares of x plus c
abbrev pub RaisedRecombines : Type 0
RaisedRecombines =
    (n : ℕ) (f : ℕ → ℕ) (x c : ℕ) → 0 < n → AreShares n f x →
    AreShares n (λ p. raised_share p (f p) c) (x + c)

-- the parties' parts are a multiplication triple: the c are shares of the product of what the a and the b are shares of
abbrev pub IsTriple : ℕ → (ℕ → MultTriple) → Type 0
IsTriple n triple =
    AreShares n (λ p. (triple p).c) (sum_to n (λ p. (triple p).a) * sum_to n (λ p. (triple p).b))

-- the parties multiply shares of x and of y: each opens its differences, d and e are what all the opened ones recombine
-- to, and then what the parties close with are shares of x times y
abbrev pub ProductRecombines : Type 0
ProductRecombines =
    (n : ℕ) (left right : ℕ → ℕ) (triple : ℕ → MultTriple) (x y d e : ℕ) → IsTriple n triple →
    AreShares n left x → AreShares n right y →
    AreShares n (λ p. opened_left (left p) (triple p)) d →
    AreShares n (λ p. opened_right (right p) (triple p)) e →
    AreShares n (λ p. closed_share p (triple p) d e) (x * y)
