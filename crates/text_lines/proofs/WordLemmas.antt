-- What the words that spell numbers are to std's reading of them.
use Rattle.std.proofs.Common.{ℕ, ◌≡◌, ◌≢◌, ◌<◌, ◌≤◌, ◌^◌, Bool, true, false, not, ◌&&◌, ◌||◌, [], ◌∷◌, length, get_or, Some, None, Ok, Err, Result, refl, sym, ◌∙◌, ap, subst, cond, arith}
use Rattle.std.specs.Prelude.{is_ok, MatchResult}
use Rattle.std.specs.Result.{result_ok, OkIff}
use Rattle.std.specs.Char.{is_digit, digit_value}
use Rattle.std.specs.List.{list_all}
use Rattle.std.specs.Str.{IsAscii}
use Rattle.std.specs.Str.Parse.{digits_value, AllDigits, ParsesUnsigned, IsNumeral}
use Rattle.std.proofs.lemmas.Bool.{lt-ltb, le-ltb}
use Rattle.std.proofs.lemmas.Bool.Decides.{nat_tests}
use Rattle.std.proofs.lemmas.Str.Ascii.{IsAscii-nil, IsAscii-cons}
use Rattle.std.proofs.lemmas.Str.Parse.{without_leading_plus_none}
use Rattle.text_lines.specs.Text.{Text, is_empty}
use Rattle.text_lines.specs.Word.{are_digits, number_in}
use Rattle.mot_base.specs.Names.{is_name, is_letter}
use Rattle.mot_base.proofs.Lists.{both_true}

digit_below : (c base : ℕ) → is_digit c base ≡ true → digit_value c < base
digit_below c base h = grind (arith, nat_tests)

digit_ascii : (c base : ℕ) → base ≤ 36 → digit_value c < base → c < 128
digit_ascii c base low h = grind (arith, nat_tests)

pub digits_from_test : (base : ℕ) (word : Text) → list_all (λ b. is_digit b base) word ≡ true → AllDigits base word
digits_from_test base [] h = tt
digits_from_test base (c ∷ cs) h = let parts = both_true (is_digit c base) _ h in (digit_below c base parts.0, digits_from_test base cs parts.1)

pub ascii_from_digits : (base : ℕ) (word : Text) → base ≤ 36 → AllDigits base word → IsAscii word
ascii_from_digits base [] low h = IsAscii-nil
ascii_from_digits base (c ∷ cs) low h = IsAscii-cons c cs (digit_ascii c base low h.0) (ascii_from_digits base cs low h.1)

no_plus : (base : ℕ) (word : Text) → base ≤ 36 → AllDigits base word → get_or word 0 0 ≢ 43
no_plus base [] low h = λ e. omega arith
no_plus base (c ∷ cs) low h = λ e. let P : ℕ → Type 0 = λ d. digit_value d < base in let big : digit_value 43 < base = subst P e h.0 in omega arith

chosen : (a b : Bool) (x : ℕ) → a ≡ true → b ≡ true → cond (a && b) (Some x) None ≡ Some x
chosen true true x g h = refl
chosen true false x g h = cc
chosen false b x g h = cc

not_chosen : (a b : Bool) (x : ℕ) → b ≡ false → cond (a && b) (Some x) None ≡ None
not_chosen true true x h = cc
not_chosen true false x h = refl
not_chosen false b x h = refl

some_digit : (word : Text) → not (is_empty word) ≡ true → 0 < length word
some_digit [] h = cc
some_digit (c ∷ cs) h = omega arith

not_below : (m n : ℕ) → ¬ (m < n) → n ≤ m
not_below m n h = omega arith

-- what std reads of a text of digits is the number that it spells
parsed_digits : (base : ℕ) (word : Text) {E : Type 0} (r : Result ℕ E) → are_digits base word ≡ true → OkIff r (IsNumeral base word × (digits_value base word < 2 ^ 64)) (digits_value base word) → result_ok r ≡ number_in base word
parsed_digits base word (Ok x) h parses =
    ap Some parses.1 ∙ sym (chosen (are_digits base word) _ (digits_value base word) h (lt-ltb _ _ parses.0.1))
parsed_digits base word (Err e) h parses = sym (not_chosen (are_digits base word) _ (digits_value base word) (le-ltb _ _ (not_below _ _ (λ small. parses ((some_digit word (both_true (not (is_empty word)) _ h).0, digits_from_test base word (both_true (not (is_empty word)) _ h).1), small)))))

pub parsed_number : (base : ℕ) (word : Text) {E : Type 0} (r : Result ℕ E) → base ≤ 36 → are_digits base word ≡ true → ParsesUnsigned 64 base word r → result_ok r ≡ number_in base word
parsed_number base word {E} r low h parses =
    let plain = without_leading_plus_none word (no_plus base word low (digits_from_test base word (both_true (not (is_empty word)) _ h).1)) in
    let P : Text → Type 0 = λ text. OkIff r (IsNumeral base text × (digits_value base text < 2 ^ 64)) (digits_value base text) in
    parsed_digits base word r h (subst P plain parses)

-- a result whose error refutes what holds is Ok
pub ok_from_cases : {A E U : Type 0} (P : A → Type 0) (Q : E → Type 0) (r : Result A E) → MatchResult r P (λ e. ¬ U × Q e) → U → is_ok r ≡ true
ok_from_cases P Q (Ok x) h u = refl
ok_from_cases P Q (Err e) h u = absurd (h.0 u)

letter_ascii : (b : ℕ) → is_letter b ≡ true → b < 128
letter_ascii b h = grind (arith, nat_tests)

name_byte_ascii : (b : ℕ) → (is_letter b || is_digit b 10) ≡ true → b < 128
name_byte_ascii b h = grind (arith, nat_tests)

name_bytes_ascii : (bs : Text) → list_all (λ b. is_letter b || is_digit b 10) bs ≡ true → IsAscii bs
name_bytes_ascii [] h = IsAscii-nil
name_bytes_ascii (b ∷ bs) h = let parts = both_true _ _ h in IsAscii-cons b bs (name_byte_ascii b parts.0) (name_bytes_ascii bs parts.1)

-- a name is of ASCII
pub name_ascii : (name : Text) → is_name name ≡ true → IsAscii name
name_ascii [] h = cc
name_ascii (b ∷ bs) h = let parts = both_true _ _ h in let front = both_true _ _ parts.0 in IsAscii-cons b bs (letter_ascii b front.0) (name_bytes_ascii bs front.1)
