-- Bit triples as records of one byte.
use Rattle.std.specs.Prelude.{ℕ, ◌==◌, List, map}
use Rattle.std.specs.Int.{bit_at}
use Rattle.share_types.specs.Bits.{number}

-- the vector that has at place i the bit of that number of record i
unfoldable pub vector_of : ℕ → List ℕ → ℕ
vector_of bit records = number (map (λ r. bit_at r bit == 1) records)
