-- Decimal words, and the numbers that they spell.
use Rattle.std.proofs.Common.{ℕ, ◌≡◌, ◌<◌, ◌^◌, true, not, [], ◌∷◌, length, refl, arith}
use Rattle.std.specs.Char.{is_digit, digit_value}
use Rattle.std.specs.List.{list_all}
use Rattle.std.specs.Str.Parse.{AllDigits}
use Rattle.std.specs.Fmt.{decimal}
use Rattle.std.proofs.lemmas.Bool.{and_from, lt-ltb}
use Rattle.std.proofs.lemmas.Bool.Decides.{nat_tests}
use Rattle.std.proofs.lemmas.Fmt.{decimal_is_IsNumeral}
use Rattle.text_lines.proofs.JoinedLemmas.{is_plain, is_plain_word}
use Rattle.text_lines.specs.Text.{Text, is_empty}
use Rattle.text_lines.specs.Word.{are_digits}

digit_plain : (c : ℕ) → digit_value c < 10 → is_plain c ≡ true
digit_plain c h = grind (arith, nat_tests)

digits_plain : (ds : Text) → AllDigits 10 ds → list_all is_plain ds ≡ true
digits_plain [] h = refl
digits_plain (c ∷ cs) h = and_from (is_plain c) (list_all is_plain cs) (digit_plain c h.0) (digits_plain cs h.1)

digits_test : (ds : Text) → AllDigits 10 ds → list_all (λ b. is_digit b 10) ds ≡ true
digits_test [] h = refl
digits_test (c ∷ cs) h = and_from (is_digit c 10) (list_all (λ b. is_digit b 10) cs) (lt-ltb _ _ h.0) (digits_test cs h.1)

not_empty : (ds : Text) → 0 < length ds → not (is_empty ds) ≡ true
not_empty [] h = absurd (omega arith)
not_empty (c ∷ cs) h = refl

-- a number of 64 bits is a canonical word in decimal
pub decimal_plain : (n : ℕ) → n < 2 ^ 64 → is_plain_word (decimal n) ≡ true
decimal_plain n h =
    let numeral = (decimal_is_IsNumeral n h).0 in
    and_from (not (is_empty (decimal n))) (list_all is_plain (decimal n)) (not_empty (decimal n) numeral.0) (digits_plain (decimal n) numeral.1)

-- and is one of decimal digits, which spell it
pub decimal_digits : (n : ℕ) → n < 2 ^ 64 → are_digits 10 (decimal n) ≡ true
decimal_digits n h =
    let numeral = (decimal_is_IsNumeral n h).0 in
    and_from (not (is_empty (decimal n))) (list_all (λ b. is_digit b 10) (decimal n)) (not_empty (decimal n) numeral.0) (digits_test (decimal n) numeral.1)
