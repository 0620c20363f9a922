-- Decimal words, and the numbers that they spell.
use Rattle.std.proofs.Common.{ℕ, ◌≡◌, ◌<◌, ◌^◌, Bool, true, nat_lt, List, [], ◌∷◌, map, Some, None, refl, ◌∙◌, ap, cond}
use Rattle.std.specs.Prelude.{option_map, option_and_then}
use Rattle.std.specs.List.{list_all}
use Rattle.std.specs.Str.Parse.{digits_value}
use Rattle.std.specs.Fmt.{decimal}
use Rattle.std.proofs.lemmas.Bool.{and_from, and_parts, ltb-true}
use Rattle.std.proofs.lemmas.Fmt.{decimal_is_IsNumeral}
use Rattle.bristol_reader.specs.Line.{decimal_of, numbers_of}
use Rattle.text_lines.proofs.DecimalLemmas.{decimal_plain, decimal_digits}
use Rattle.text_lines.proofs.JoinedLemmas.{is_plain_word}

pub decimal_read : (n : ℕ) → n < 2 ^ 64 → decimal_of (decimal n) ≡ Some n
decimal_read n h =
    let numeral = decimal_is_IsNumeral n h in
    let digits = decimal_digits n h in
    ap (λ (b : Bool). cond b (Some (digits_value 10 (decimal n))) None) digits ∙ ap Some numeral.1

abbrev pub are_kept : List ℕ → Bool
are_kept ns = list_all (λ n. nat_lt n (2 ^ 64)) ns

pub decimals_plain : (ns : List ℕ) → are_kept ns ≡ true → list_all is_plain_word (map decimal ns) ≡ true
decimals_plain [] h = refl
decimals_plain (n ∷ ns) h =
    let tests = and_parts (nat_lt n (2 ^ 64)) (are_kept ns) h in
    and_from _ _ (decimal_plain n (ltb-true n (2 ^ 64) tests.0)) (decimals_plain ns tests.1)

pub decimals_read : (ns : List ℕ) → are_kept ns ≡ true → numbers_of (map decimal ns) ≡ Some ns
decimals_read [] h = refl
decimals_read (n ∷ ns) h =
    let tests = and_parts (nat_lt n (2 ^ 64)) (are_kept ns) h in
    ap (option_and_then (λ m. option_map (λ ms. m ∷ ms) (numbers_of (map decimal ns)))) (decimal_read n (ltb-true n (2 ^ 64) tests.0))
    ∙ ap (option_map (λ ms. n ∷ ms)) (decimals_read ns tests.1)
