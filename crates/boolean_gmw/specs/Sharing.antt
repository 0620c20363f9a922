-- The shares of a vector that a party gives out, from the share words of its tape.
use Rattle.std.specs.Prelude.{ℕ, ◌%◌, ◌^◌, List, slice_index, nat_eq, if◌then◌else◌, bit_xor}
use Rattle.share_types.specs.declared.bits.Bits.{Bits}
use Rattle.share_types.specs.Sums.{xor_to}

-- the low bits of a party's share word
abbrev pub low_word : ℕ → List ℕ → ℕ → ℕ
low_word width tape to = slice_index tape to % 2 ^ width

-- the same, and 0 for the party `me` that gives out
abbrev pub given_word : ℕ → List ℕ → ℕ → ℕ → ℕ
given_word width tape me to = if nat_eq to me then 0 else low_word width tape to

-- the own share: what the others' shares leave of the vector
abbrev pub own_word : Bits → List ℕ → ℕ → ℕ → ℕ
own_word x tape me parties = bit_xor x.word (xor_to parties (given_word x.width tape me))

-- the share of a party
abbrev pub share_given : Bits → List ℕ → ℕ → ℕ → ℕ → ℕ
share_given x tape me parties to =
    if nat_eq to me then own_word x tape me parties else low_word x.width tape to
