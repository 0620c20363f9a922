-- Words modulo 2^64, and what the shares of all parties recombine to: by sum, and by XOR.
use Rattle.std.specs.Prelude.{◌≡◌, ℕ, zero, suc, ◌+◌, ◌-◌, ◌*◌, ◌%◌, ◌^◌, nat_eq, if◌then◌else◌, List, [], ◌∷◌, ◌++◌, bit_xor}

-- the sum of two words modulo 2^64
abbrev pub word_sum : ℕ → ℕ → ℕ
word_sum x y = (x + y) % 2 ^ 64

-- the difference of two words modulo 2^64
abbrev pub word_difference : ℕ → ℕ → ℕ
word_difference x y = (x + (2 ^ 64 - y % 2 ^ 64)) % 2 ^ 64

-- the product of two words modulo 2^64
abbrev pub word_product : ℕ → ℕ → ℕ
word_product x y = (x * y) % 2 ^ 64

-- the sum of a list of numbers
abbrev pub total : List ℕ → ℕ
total [] = 0
total (x ∷ xs) = x + total xs

-- the XOR of a list of numbers
abbrev pub xor_total : List ℕ → ℕ
xor_total [] = 0
xor_total (x ∷ xs) = bit_xor x (xor_total xs)

-- the shares recombine to x by sum: their sum is x modulo 2^64
abbrev pub Recombines : List ℕ → ℕ → Type 0
Recombines shares x = total shares % 2 ^ 64 ≡ x % 2 ^ 64

-- the shares recombine to x by XOR
abbrev pub RecombinesByXor : List ℕ → ℕ → Type 0
RecombinesByXor shares x = xor_total shares ≡ x

-- what of a public number a party adds to its share: party 0 the number, the others nothing
abbrev pub part_of_public : ℕ → ℕ → ℕ
part_of_public me c = if nat_eq me 0 then c else 0

-- the sum of what each of the first n parties has, by the party's number
abbrev pub sum_to : ℕ → (ℕ → ℕ) → ℕ
sum_to zero f = 0
sum_to (suc n) f = sum_to n f + f n

-- the XOR of what each of the first n parties has, by the party's number
abbrev pub xor_to : ℕ → (ℕ → ℕ) → ℕ
xor_to zero f = 0
xor_to (suc n) f = bit_xor (xor_to n f) (f n)

-- the list of what each of the first n parties has, by the party's number
abbrev pub each : {X : Type 0} → ℕ → (ℕ → X) → List X
each zero f = []
each (suc n) f = each n f ++ f n ∷ []

-- what each party makes of its item by its number, which counts up from the first party's
abbrev pub by_number : {X Y : Type 0} → (ℕ → X → Y) → ℕ → List X → List Y
by_number f first [] = []
by_number f first (x ∷ xs) = f first x ∷ by_number f (first + 1) xs

-- what each party makes of its item by its number, from party 0 on
abbrev pub by_party : {X Y : Type 0} → (ℕ → X → Y) → List X → List Y
by_party f xs = by_number f 0 xs
