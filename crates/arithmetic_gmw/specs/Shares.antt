-- What one party makes of its shares of words modulo 2^64.
use Rattle.std.specs.Prelude.{ℕ, ◌+◌, ◌*◌, ◌%◌, ◌^◌}
use Rattle.share_types.specs.Sums.{word_sum, word_difference, part_of_public}
use Rattle.share_types.specs.declared.records.MultTriple.{MultTriple}

-- a party's share after a public constant is added
abbrev pub raised_share : ℕ → ℕ → ℕ → ℕ
raised_share me x c = word_sum x (part_of_public me c)

-- what a party opens of the left operand of a product: its share less its part of the triple's a
abbrev pub opened_left : ℕ → MultTriple → ℕ
opened_left x t = word_difference x t.a

-- what a party opens of the right operand of a product: its share less its part of the triple's b
abbrev pub opened_right : ℕ → MultTriple → ℕ
opened_right y t = word_difference y t.b

-- a party's share of a product, where d and e are the opened differences of its operands
abbrev pub closed_share : ℕ → MultTriple → ℕ → ℕ → ℕ
closed_share me t d e = (t.c + d * t.b + e * t.a + part_of_public me (d * e)) % 2 ^ 64
