-- What the parties' shares recombine to after each of them has made one call. What a party has is said by its number; for
-- lists of shares it follows by the XORs over parties of `share_types`.
use Rattle.std.specs.Prelude.{◌≡◌, ℕ, ◌+◌, ◌*◌, ◌/◌, ◌%◌, ◌^◌, ◌<◌, bit_and, bit_xor}
use Rattle.share_types.specs.Sums.{xor_to}
use Rattle.boolean_gmw.specs.Shares.{Triple, flipped_share, opened_left, opened_right, closed_share}

-- what so many parties have are shares of a vector: they XOR to it
abbrev pub AreShares : ℕ → (ℕ → ℕ) → ℕ → Type 0
AreShares n share x = xor_to n share ≡ x

-- the XORs of the parties' shares of x and y are shares of their XOR
abbrev pub XorRecombines : Type 0
XorRecombines =
    (n : ℕ) (f g : ℕ → ℕ) (x y : ℕ) → AreShares n f x → AreShares n g y →
    AreShares n (λ p. bit_xor (f p) (g p)) (bit_xor x y)

-- the parties' shares of x, with c added at party 0 alone, are shares of the XOR of x and c
abbrev pub FlippedRecombines : Type 0
FlippedRecombines =
    (n : ℕ) (f : ℕ → ℕ) (x c : ℕ) → 0 < n → AreShares n f x →
    AreShares n (λ p. flipped_share p (f p) c) (bit_xor x c)

-- slices of the parties' shares of x are shares of the slice of x
abbrev pub SliceRecombines : Type 0
SliceRecombines =
    (n : ℕ) (f : ℕ → ℕ) (x at width : ℕ) → AreShares n f x →
    AreShares n (λ p. f p / 2 ^ at % 2 ^ width) (x / 2 ^ at % 2 ^ width)

-- where no share of x has a bit at or above a width, joins of the parties' shares of x and y are shares of the join
abbrev pub JoinRecombines : Type 0
JoinRecombines =
    (n : ℕ) (f g : ℕ → ℕ) (x y width : ℕ) → ((p : ℕ) → p < n → f p < 2 ^ width) →
    AreShares n f x → AreShares n g y → AreShares n (λ p. f p + 2 ^ width * g p) (x + 2 ^ width * y)

-- the parties' parts are bit triples: the c are shares of the AND of what the a and the b are shares of
abbrev pub AreBitTriples : ℕ → (ℕ → Triple) → Type 0
AreBitTriples n triple =
    AreShares n (λ p. (triple p).c) (bit_and (xor_to n (λ p. (triple p).a)) (xor_to n (λ p. (triple p).b)))

-- the parties make the AND of shares of x and of y: each opens its vectors, d and e are what all the opened ones
-- recombine to, and then what the parties close with are shares of the AND of x and y
abbrev pub AndRecombines : Type 0
AndRecombines =
    (n : ℕ) (left right : ℕ → ℕ) (triple : ℕ → Triple) (x y d e : ℕ) → 0 < n → AreBitTriples n triple →
    AreShares n left x → AreShares n right y →
    AreShares n (λ p. opened_left (left p) (triple p)) d →
    AreShares n (λ p. opened_right (right p) (triple p)) e →
    AreShares n (λ p. closed_share p (triple p) d e) (bit_and x y)
