-- The number of a decimal literal.
use Rattle.std.proofs.Common.{ℕ, ◌≡◌, ◌<◌, ◌^◌, Bool, true, false, ◌&&◌, ◌||◌, nat_lt, List, [], ◌++◌, drop, Some, None, refl, sym, ◌∙◌, ap, subst, cond}
use Rattle.std.specs.Str.Parse.{digits_value}
use Rattle.std.proofs.lemmas.Bool.{ltb-true}
use Rattle.std.proofs.Math.Nat.{mod-eq_of_lt}
use Rattle.share_types.specs.Bits.{number, bits}
use Rattle.share_types.proofs.BitsLemmas.{number-bits}
use Rattle.text_lines.specs.Text.{Text}
use Rattle.text_lines.specs.Word.{are_digits, number_in, number_of, begins_hexadecimal}
use Rattle.circuit_values.specs.Values.{literal_number, literal_fits}

-- a decimal literal of a word: its number, which is below 2^64
pub record IsDecimalOf (literal : Text) (word : ℕ) : Type 0 where
  pub value : literal_number literal ≡ word
  pub below : nat_lt (literal_number literal) (2 ^ 64) ≡ true
  pub low : word < 2 ^ 64

chosen : (a b : Bool) (v word : ℕ) → cond (a && b) (Some v) None ≡ Some word → (v ≡ word) × (b ≡ true)
chosen true true v word h = (let same : v ≡ word = cc in same, refl)
chosen true false v word h = cc
chosen false b v word h = cc

pub decimal_of : (literal : Text) (word : ℕ) → begins_hexadecimal literal ≡ false → number_of literal ≡ Some word → IsDecimalOf literal word
decimal_of literal word plain h =
    let number : number_of literal ≡ number_in 10 literal = ap (λ b. cond b (number_in 16 (drop 2 literal)) (number_in 10 literal)) plain in
    let facts = chosen (are_digits 10 literal) (nat_lt (digits_value 10 literal) (2 ^ 64)) (digits_value 10 literal) word (sym number ∙ h) in
    let value : literal_number literal ≡ digits_value 10 literal = ap (λ b. cond b (digits_value 16 (drop 2 literal)) (digits_value 10 literal)) plain in
    let P : ℕ → Type 0 = λ n. n < 2 ^ 64 in
    record { value = value ∙ facts.0; below = ap (λ n. nat_lt n (2 ^ 64)) value ∙ facts.1; low = subst P facts.0 (ltb-true (digits_value 10 literal) (2 ^ 64) facts.1) }

-- the number of the bits that are kept of a word
pub word_bits : (items start : List Bool) (word : ℕ) → word < 2 ^ 64 → start ≡ [] → items ≡ start ++ bits 64 word → number items ≡ word
word_bits items start word low none e = ap number e ∙ ap (λ (xs : List Bool). number (xs ++ bits 64 word)) none ∙ number-bits 64 word ∙ mod-eq_of_lt low

pub fits_is : (literal : Text) (word width n : ℕ) → begins_hexadecimal literal ≡ false → IsDecimalOf literal word → n ≡ word → nat_lt n (2 ^ width) ≡ literal_fits literal width
fits_is literal word width n plain decimal e =
    ap (λ m. nat_lt m (2 ^ width)) (e ∙ sym decimal.value)
    ∙ sym (ap (λ b. (b || nat_lt (literal_number literal) (2 ^ 64)) && nat_lt (literal_number literal) (2 ^ width)) plain
    ∙ ap (λ b. b && nat_lt (literal_number literal) (2 ^ width)) decimal.below)
