-- The canonical word in each slot of a line: as the slot wants it, and what it states.
use Rattle.std.proofs.Common.{ℕ, ◌≡◌, ◌<◌, ◌≤◌, ◌^◌, Bool, true, false, ◌&&◌, ◌||◌, [], ◌∷◌, drop, Option, Some, None, refl, ◌∙◌, ap, subst, cond, arith}
use Rattle.std.specs.Prelude.{◌==◌, nat_le, nat_lt, option_map, option_and_then, IsSome, IfSome, codes}
use Rattle.std.specs.Char.{is_digit, digit_value}
use Rattle.std.specs.List.{list_all}
use Rattle.std.specs.Option.{unwrap_or}
use Rattle.std.specs.Str.{bytes_eq}
use Rattle.std.specs.Str.Parse.{digits_value, AllDigits}
use Rattle.std.specs.Fmt.{decimal}
use Rattle.std.proofs.lemmas.Bool.{lt-ltb, le-leb}
use Rattle.std.proofs.lemmas.Bool.Decides.{nat_tests}
use Rattle.std.proofs.lemmas.Fmt.{decimal_is_IsNumeral}
use Rattle.std.proofs.lemmas.Slice.Eq.{bytes_eq-Decides}
use Rattle.share_types.specs.declared.sharing.Sharing.{Sharing}
use Rattle.share_types.specs.declared.sharing.Sharing.TheVariants.{A, B, Y}
use Rattle.mixed_language.specs.declared.language.Operation.{Operation}
use Rattle.mixed_language.specs.declared.language.Slot.TheVariants as slot
use Rattle.mixed_language.specs.Language.{operations, word_of}
use Rattle.mixed_circuit.specs.Line.{Parts, letter_of, is_letter_of, number_within, with_word}
use Rattle.mixed_circuit.specs.Stated.{IsSomeName}
use Rattle.mixed_circuit.specs.Written.{letter_word, told_word}
use Rattle.text_lines.proofs.DecimalLemmas.{decimal_plain, decimal_digits}
use Rattle.text_lines.proofs.JoinedLemmas.{is_plain, is_plain_word}
use Rattle.text_lines.specs.Text.{Text}
use Rattle.text_lines.specs.Word.{begins_hexadecimal, number_in, number_of}
use Rattle.mot_base.specs.Names.{is_name, is_letter}
use Rattle.mot_base.proofs.Lists.{all_pass as implied_all, true_both as both, both_true}

-- ---- names

first_plain : (b : ℕ) → is_letter b ≡ true → is_plain b ≡ true
first_plain b h = grind (arith, nat_tests)

more_plain : (b : ℕ) → (is_letter b || is_digit b 10) ≡ true → is_plain b ≡ true
more_plain b h = grind (arith, nat_tests)

pub name_plain : (name : Text) → is_name name ≡ true → is_plain_word name ≡ true
name_plain [] h = cc
name_plain (b ∷ bs) h =
    let parts = both_true _ _ h in
    let front = both_true _ _ parts.0 in
    both (is_plain b) (list_all is_plain bs) (first_plain b front.0)
    (implied_all is_plain (λ c. is_letter c || is_digit c 10) more_plain bs front.1)

-- a name that is stated, as the word of a statement of that name
pub some_named : (o : Option Text) → IsSomeName o →
    (is_name (unwrap_or o []) ≡ true) × (Some (unwrap_or o []) ≡ o)
some_named None h = absurd h
some_named (Some name) h = (h, refl)

-- ---- decimal numbers

-- no digit is an `x`
second_no_x : (a b : ℕ) → digit_value b < 10 → (a == 48 && b == 120) ≡ false
second_no_x a b h = grind (arith, nat_tests)

not_hexadecimal : (ds : Text) → AllDigits 10 ds → begins_hexadecimal ds ≡ false
not_hexadecimal [] h = refl
not_hexadecimal (c ∷ []) h = refl
not_hexadecimal (c ∷ d ∷ ds) h = second_no_x c d h.1.0

pub decimal_read : (n : ℕ) → n < 2 ^ 64 → number_of (decimal n) ≡ Some n
decimal_read n h =
    let numeral = decimal_is_IsNumeral n h in
    let digits = decimal_digits n h in
    let fits : nat_lt (digits_value 10 (decimal n)) (2 ^ 64) ≡ true =
    ap (λ (m : ℕ). nat_lt m (2 ^ 64)) numeral.1 ∙ lt-ltb n (2 ^ 64) h in
    ap (λ (b : Bool). cond b (number_in 16 (drop 2 (decimal n))) (number_in 10 (decimal n)))
    (not_hexadecimal (decimal n) numeral.0.1)
    ∙ ap (λ (b : Bool). cond b (Some (digits_value 10 (decimal n))) None) (both _ _ digits fits)
    ∙ ap Some numeral.1

pub decimal_within : (least most n : ℕ) → least ≤ n → n ≤ most → n < 2 ^ 64 →
    number_within least most (decimal n) ≡ Some n
decimal_within least most n low high h =
    ap (option_and_then (λ (m : ℕ). cond (nat_le least m && nat_le m most) (Some m) None)) (decimal_read n h)
    ∙ ap (λ (b : Bool). cond b (Some n) None) (both _ _ (le-leb least n low) (le-leb n most high))

digits_not_all : (ds : Text) → AllDigits 10 ds → ds ≡ codes "all" → ⊥
digits_not_all ds h e = let P : Text → Type 0 = AllDigits 10 in let first = (subst P e h).0 in
    omega (arith, first)

not_equal : (x y : Text) (b : Bool) → bytes_eq x y ≡ b → (x ≡ y → ⊥) → b ≡ false
not_equal x y true e h = absurd (h ((bytes_eq-Decides x y).0 e))
not_equal x y false e h = refl

decimal_not_all : (n : ℕ) → n < 2 ^ 64 → bytes_eq (decimal n) (codes "all") ≡ false
decimal_not_all n h =
    not_equal (decimal n) (codes "all") _ refl (digits_not_all (decimal n) (decimal_is_IsNumeral n h).0.1)

-- ---- letters and keywords

-- the words of the operations are canonical words
pub keywords_plain : list_all (λ (o : Operation). is_plain_word (word_of o)) operations ≡ true
keywords_plain = refl

pub letter_read : (o : Option Sharing) → letter_of (letter_word o) ≡ o
letter_read (Some A) = refl
letter_read (Some B) = refl
letter_read (Some Y) = refl
letter_read None = refl

pub letter_plain : (operation : Operation) (o : Option Sharing) → is_letter_of operation o ≡ true →
    is_plain_word (letter_word o) ≡ true
letter_plain operation (Some A) h = refl
letter_plain operation (Some B) h = refl
letter_plain operation (Some Y) h = refl
letter_plain operation None h = cc

-- ---- what a canonical word states in its slot

abbrev pub IsSmall : Option ℕ → Type 0
IsSmall o = IfSome o (λ n. n < 2 ^ 64)

pub owner_plain : (o : Option ℕ) → IsSmall o → is_plain_word (decimal (unwrap_or o 0)) ≡ true
owner_plain None h = decimal_plain 0 (omega arith)
owner_plain (Some n) h = decimal_plain n h

pub owner_stated : (q : Parts) (o : Option ℕ) → IsSome o → IsSmall o →
    with_word q slot.Owner (decimal (unwrap_or o 0)) ≡ Some (record q { party = o })
unfolding with_word
owner_stated q None some h = cc
owner_stated q (Some n) some h =
    ap (option_map (λ (m : ℕ). let parts : Parts = record q { party = Some m } in parts)) (decimal_read n h)

pub told_plain : (o : Option ℕ) → IsSmall o → is_plain_word (told_word o) ≡ true
told_plain None h = refl
told_plain (Some n) h = decimal_plain n h

pub told_stated : (q : Parts) (o : Option ℕ) → IsSmall o → (o ≡ None → q.party ≡ None) →
    with_word q slot.Told (told_word o) ≡ Some (record q { party = o })
unfolding with_word
told_stated q None h nobody = ap (λ (o : Option ℕ). let parts : Parts = record q { party = o } in Some parts)
    (nobody refl)
told_stated q (Some n) h nobody =
    let f = option_map (λ (m : ℕ). let parts : Parts = record q { party = Some m } in parts) in
    ap (λ (b : Bool). cond b (Some q) (f (number_of (decimal n)))) (decimal_not_all n h)
    ∙ ap f (decimal_read n h)

pub width_stated : (q : Parts) (n : ℕ) → 1 ≤ n → n ≤ 64 →
    with_word q slot.Width (decimal n) ≡ Some (record q { width = n })
unfolding with_word
width_stated q n low high = ap (option_map (λ (m : ℕ). let parts : Parts = record q { width = m } in parts))
    (decimal_within 1 64 n low high (omega arith))

pub place_stated : (q : Parts) (n : ℕ) → n ≤ 63 →
    with_word q slot.Place (decimal n) ≡ Some (record q { place = n })
unfolding with_word
place_stated q n high = ap (option_map (λ (m : ℕ). let parts : Parts = record q { place = m } in parts))
    (decimal_within 0 63 n (omega arith) high (omega arith))

pub constant_stated : (q : Parts) (n : ℕ) → n < 2 ^ 64 →
    with_word q slot.Constant (decimal n) ≡ Some (record q { constant = n })
unfolding with_word
constant_stated q n h = ap (option_map (λ (m : ℕ). let parts : Parts = record q { constant = m } in parts))
    (decimal_read n h)

pub letter_stated : (q : Parts) (o : Option Sharing) →
    with_word q slot.Letter (letter_word o) ≡ Some (record q { letter = o })
unfolding with_word
letter_stated q o = ap (λ (l : Option Sharing). let parts : Parts = record q { letter = l } in Some parts)
    (letter_read o)
