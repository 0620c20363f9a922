-- The words that are numbers.
use Rattle.std.specs.Prelude.{ℕ, ◌^◌, Bool, false, not, ◌==◌, ◌&&◌, nat_lt, [], ◌∷◌, drop, Option, Some, None, if◌then◌else◌}
use Rattle.std.specs.Char.{is_digit}
use Rattle.std.specs.List.{list_all}
use Rattle.std.specs.Str.Parse.{digits_value}
use Rattle.text_lines.specs.Text.{Text, is_empty}

-- one digit or more in a base, whose letters are of either case
abbrev pub are_digits : ℕ → Text → Bool
are_digits base word = not (is_empty word) && list_all (λ b. is_digit b base) word

-- the number below 2^64 that digits in a base spell
abbrev pub number_in : ℕ → Text → Option ℕ
number_in base word =
    if are_digits base word && nat_lt (digits_value base word) (2 ^ 64)
    then Some (digits_value base word)
    else None

-- whether a word begins as hexadecimal numbers do
abbrev pub begins_hexadecimal : Text → Bool
begins_hexadecimal (zero_digit ∷ letter ∷ more) = zero_digit == 48 && letter == 120
begins_hexadecimal (only ∷ []) = false
begins_hexadecimal [] = false

-- the number below 2^64 that a word spells: decimal digits, or `0x` and hexadecimal digits
abbrev pub number_of : Text → Option ℕ
number_of word = if begins_hexadecimal word then number_in 16 (drop 2 word) else number_in 10 word
