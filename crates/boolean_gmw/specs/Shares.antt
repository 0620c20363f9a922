-- What one party makes of its shares of vectors, as numbers.
use Rattle.std.specs.Prelude.{ℕ, bit_and, bit_xor}
use Rattle.share_types.specs.declared.records.BitTriple.{BitTriple}
use Rattle.share_types.specs.Sums.{part_of_public}

-- a party's parts of the bit triples of an AND, a vector of each
pub record Triple : Type 0 where
  pub a : ℕ
  pub b : ℕ
  pub c : ℕ

abbrev pub triple_of : BitTriple → Triple
triple_of t = record { a = t.a.word; b = t.b.word; c = t.c.word }

-- a party's share after the XOR with a public vector
abbrev pub flipped_share : ℕ → ℕ → ℕ → ℕ
flipped_share me x c = bit_xor x (part_of_public me c)

-- what a party opens of the left operand of an AND: its share XOR its part of the triples' a
abbrev pub opened_left : ℕ → Triple → ℕ
opened_left x t = bit_xor x t.a

-- what a party opens of the right operand of an AND: its share XOR its part of the triples' b
abbrev pub opened_right : ℕ → Triple → ℕ
opened_right y t = bit_xor y t.b

-- a party's share of an AND, where d and e are the opened vectors of its operands
abbrev pub closed_share : ℕ → Triple → ℕ → ℕ → ℕ
closed_share me t d e =
    bit_xor (bit_xor (bit_xor t.c (bit_and d t.b)) (bit_and e t.a)) (part_of_public me (bit_and d e))
