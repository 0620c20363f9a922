-- Vectors as lists of bits and as numbers: what is done to the one is done to the other.
use Rattle.std.specs.Prelude.{◌≡◌, ℕ, ◌<◌, ◌≤◌, ◌+◌, ◌-◌, ◌*◌, ◌/◌, ◌%◌, ◌^◌, ◌&&◌, Bool, not, List, ◌++◌, length, map, take, drop, bit_and, bit_xor}
use Rattle.share_types.specs.Bits.{number, bits, each_bit, differ}

-- the number of a number's lowest bits is what they leave of it
abbrev pub NumberOfBits : Type 0
NumberOfBits = (width n : ℕ) → number (bits width n) ≡ n % 2 ^ width

-- the lowest bits of a list's number are the list
abbrev pub BitsOfNumber : Type 0
BitsOfNumber = (xs : List Bool) → bits (length xs) (number xs) ≡ xs

-- a vector's number has no bit at or above its width
abbrev pub NumberIsBelow : Type 0
NumberIsBelow = (xs : List Bool) → number xs < 2 ^ length xs

abbrev pub XorIsBitwise : Type 0
XorIsBitwise = (xs ys : List Bool) → length xs ≡ length ys → number (each_bit differ xs ys) ≡ bit_xor (number xs) (number ys)

abbrev pub AndIsBitwise : Type 0
AndIsBitwise = (xs ys : List Bool) → length xs ≡ length ys → number (each_bit ◌&&◌ xs ys) ≡ bit_and (number xs) (number ys)

abbrev pub NotIsBitwise : Type 0
NotIsBitwise = (xs : List Bool) → number (map not xs) ≡ 2 ^ length xs - 1 - number xs

-- some bits from a place on
abbrev pub SliceIsCut : Type 0
SliceIsCut =
    (xs : List Bool) (at width : ℕ) → at + width ≤ length xs →
    number (take width (drop at xs)) ≡ number xs / 2 ^ at % 2 ^ width

-- the bits of the low part and behind them those of the high part
abbrev pub JoinIsAppended : Type 0
JoinIsAppended = (xs ys : List Bool) → number (xs ++ ys) ≡ number xs + 2 ^ length xs * number ys
