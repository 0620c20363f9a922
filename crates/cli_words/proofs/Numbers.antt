-- What std reads of a text of decimal digits is the number that it spells.
use Rattle.std.proofs.Common.{◌≡◌, ◌≢◌, ℕ, ◌<◌, ◌≤◌, Bool, true, false, [], ◌∷◌, length, get_or, Some, None, refl, sym, ◌∙◌, ap, subst, arith}
use Rattle.std.specs.Prelude.{if◌then◌else◌, ◌&&◌, not, nat_le, ◌^◌, Result, Ok, Err}
use Rattle.std.specs.Result.{result_ok, OkIff}
use Rattle.std.specs.List.{list_all}
use Rattle.std.specs.Char.{is_digit, digit_value}
use Rattle.std.specs.Str.Parse.{digits_value, AllDigits, ParsesUnsigned, IsNumeral}
use Rattle.std.proofs.lemmas.Bool.Decides.{nat_tests}
use Rattle.std.proofs.lemmas.Str.Parse.{without_leading_plus_none}
use Rattle.mot_base.proofs.Lists.{both_true}
use Rattle.text_lines.specs.Text.{Text, is_empty}
use Rattle.text_lines.specs.Word.{are_digits}
use Rattle.text_lines.proofs.WordLemmas.{digits_from_test}
use Rattle.cli_words.specs.Table.{number_between}

no_plus : (text : Text) → AllDigits 10 text → get_or text 0 0 ≢ 43
no_plus [] h = λ e. omega arith
no_plus (c ∷ cs) h = λ e. let P : ℕ → Type 0 = λ d. digit_value d < 10 in let big : digit_value 43 < 10 = subst P e h.0 in omega arith

some_digit : (text : Text) → not (is_empty text) ≡ true → 0 < length text
some_digit [] h = cc
some_digit (c ∷ cs) h = omega arith

numeral : (text : Text) → are_digits 10 text ≡ true → IsNumeral 10 text
numeral text h =
    let parts = both_true (not (is_empty text)) (list_all (λ b. is_digit b 10) text) h in
    (some_digit text parts.0, digits_from_test 10 text parts.1)

within : (a : Bool) (v most : ℕ) → a ≡ true → v ≤ most → (if a && (nat_le 0 v && nat_le v most) then Some v else None) ≡ Some v
within true v most e h = go (nat_le 0 v && nat_le v most) (grind (arith, nat_tests))
  where
    go : (b : Bool) → b ≡ true → (if b then Some v else None) ≡ Some v
    go true h = refl
    go false h = cc
within false v most e h = cc

beyond : (a : Bool) (v most : ℕ) → most < v → (if a && (nat_le 0 v && nat_le v most) then Some v else None) ≡ None
beyond true v most h = go (nat_le 0 v && nat_le v most) (grind (arith, nat_tests))
  where
    go : (b : Bool) → b ≡ false → (if b then Some v else None) ≡ None
    go true h = cc
    go false h = refl
beyond false v most h = refl

read_digits : (text : Text) {E : Type 0} (r : Result ℕ E) → are_digits 10 text ≡ true
    → OkIff r (IsNumeral 10 text × (digits_value 10 text < 2 ^ 32)) (digits_value 10 text)
    → result_ok r ≡ number_between 0 4294967295 text
read_digits text (Ok x) h ((n, small), e) =
    ap (λ (v : ℕ). Some v) e ∙ sym (within (are_digits 10 text) (digits_value 10 text) 4294967295 h (omega arith))
read_digits text (Err e) h big =
    let large : 4294967295 < digits_value 10 text = below (digits_value 10 text) (λ small. big (numeral text h, small)) in
    sym (beyond (are_digits 10 text) (digits_value 10 text) 4294967295 large)
  where
    below : (v : ℕ) → ¬ (v < 2 ^ 32) → 4294967295 < v
    below v h = omega arith

pub read_number : (text : Text) {E : Type 0} (r : Result ℕ E) → are_digits 10 text ≡ true → ParsesUnsigned 32 10 text r
    → result_ok r ≡ number_between 0 4294967295 text
read_number text {E} r h parses =
    let plain = without_leading_plus_none text (no_plus text (numeral text h).1) in
    let P : Text → Type 0 = λ t. OkIff r (IsNumeral 10 t × (digits_value 10 t < 2 ^ 32)) (digits_value 10 t) in
    read_digits text r h (subst P plain parses)
