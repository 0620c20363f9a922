-- Vectors of bits as lists, the least bit first, and as numbers.
use Rattle.std.specs.Prelude.{ℕ, ◌==◌, ◌+◌, ◌*◌, ◌/◌, ◌%◌, Bool, true, false, not, List, [], ◌∷◌, map, zip, suc, zero}

-- a bit as a number
abbrev pub once : Bool → ℕ
once true = 1
once false = 0

-- the number of a list of bits, of which the first is the least
abbrev pub number : List Bool → ℕ
number [] = 0
number (b ∷ bs) = once b + 2 * number bs

-- the lowest bits of a number, the least first
abbrev pub bits : ℕ → ℕ → List Bool
bits zero n = []
bits (suc width) n = (n % 2 == 1) ∷ bits width (n / 2)

-- bit by bit, by a rule for two bits
abbrev pub each_bit : (Bool → Bool → Bool) → List Bool → List Bool → List Bool
each_bit rule xs ys = map (λ (x, y). rule x y) (zip xs ys)

-- whether two bits differ
abbrev pub differ : Bool → Bool → Bool
differ true y = not y
differ false y = y
