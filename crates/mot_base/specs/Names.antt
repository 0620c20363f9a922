-- Which bytes are names.
use Rattle.std.specs.Prelude.{ℕ, Bool, false, ◌==◌, ◌||◌, ◌&&◌, nat_le, nat_lt, List, [], ◌∷◌, length}
use Rattle.std.specs.Char.{is_digit}
use Rattle.std.specs.List.{list_all}
use Rattle.mot_base.specs.Limits.{most_name_characters}

-- a name: its bytes
abbrev pub Name : Type 0
Name = List ℕ

-- a letter of ASCII or `_`
abbrev pub is_letter : ℕ → Bool
is_letter b = (nat_le 65 b && nat_le b 90) || (nat_le 97 b && nat_le b 122) || b == 95

-- a name: a letter or `_`, then letters, digits and `_`, 64 characters at most
abbrev pub is_name : Name → Bool
is_name [] = false
is_name (first ∷ more) =
    is_letter first && list_all (λ b. is_letter b || is_digit b 10) more
    && nat_lt (length more) most_name_characters
