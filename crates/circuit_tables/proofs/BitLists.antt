-- Lists of bits that grow and shrink at their end.
use Rattle.std.proofs.Common.{ℕ, ◌≡◌, ◌<◌, ◌≤◌, ◌+◌, ◌-◌, ◌*◌, ◌/◌, ◌%◌, ◌^◌, Bool, true, false, List, [], ◌∷◌, ◌++◌, length, suc, zero, refl, sym, ◌∙◌, ap, ap₂, subst, arith, take, get_or, drop, inl, inr}
use Rattle.std.specs.Prelude.{◌==◌}
use Rattle.std.specs.Char.{digit_value}
use Rattle.std.specs.Str.Parse.{digits_value}
use Rattle.std.proofs.lemmas.Int.Digits.{digits_value_more}
use Rattle.std.proofs.lemmas.Nat.{pow-add}
use Rattle.std.proofs.Math.Nat.{pow-succ', div-one, div-div-eq-div-mul, mod-eq_of_lt}
use Rattle.std.proofs.Math.Pow.{pow_mono}
use Rattle.std.specs.List.{list_any}
use Rattle.std.proofs.lemmas.Bool.{cases_lt}
use Rattle.std.proofs.Math.Nat.{mul-le-mul_left}
use Rattle.std.proofs.lemmas.List.{length-append, take-append-drop, length-take-le, take_all, drop_all, take_more}
use Rattle.share_types.specs.Bits.{once, number, bits}
use Rattle.share_types.proofs.BitsLemmas.{number-bits, number-below, bits-number, number-append}

-- the next bit of a number
bits_suc : (i n : ℕ) → bits (suc i) n ≡ bits i n ++ (n / 2 ^ i % 2 == 1) ∷ []
bits_suc zero n = ap (λ m. (m % 2 == 1) ∷ []) (sym (div-one n))
bits_suc (suc i) n = ap (λ (rest : List Bool). (n % 2 == 1) ∷ rest) (bits_suc i (n / 2) ∙ ap (λ m. bits i (n / 2) ++ (m % 2 == 1) ∷ []) (div-div-eq-div-mul n 2 (2 ^ i) ∙ ap (λ k. n / k) (sym (pow-succ' 2 i))))

pub bits_more : (i n : ℕ) → bits (i + 1) n ≡ bits i n ++ (n / 2 ^ i % 2 == 1) ∷ []
bits_more i n = let e : i + 1 ≡ suc i = omega arith in ap (λ k. bits k n) e ∙ bits_suc i n

-- a zero at the end changes no number
pub number_zero : (xs : List Bool) → number (xs ++ false ∷ []) ≡ number xs
number_zero xs = number-append xs (false ∷ []) ∙ omega arith

-- bits of which none is one
none_one : (xs : List Bool) → list_any (λ bit. bit) xs ≡ false → number xs ≡ 0
none_one [] h = refl
none_one (true ∷ xs) h = cc
none_one (false ∷ xs) h = let rest = none_one xs h in omega arith

some_one : (xs : List Bool) → list_any (λ bit. bit) xs ≡ true → 1 ≤ number xs
some_one [] h = cc
some_one (true ∷ xs) h = omega arith
some_one (false ∷ xs) h = let rest = some_one xs h in omega arith

split_number : (xs : List Bool) (width : ℕ) → width ≤ length xs → number xs ≡ number (take width xs) + 2 ^ width * number (drop width xs)
split_number xs width h =
    let whole = ap number (sym (take-append-drop width xs)) in
    let count : length (take width xs) ≡ width = length-take-le width xs h in
    whole ∙ number-append (take width xs) (drop width xs) ∙ ap (λ k. number (take width xs) + 2 ^ k * number (drop width xs)) count

-- what no one at or above a width leaves
pub cut_number : (xs : List Bool) (width : ℕ) → list_any (λ bit. bit) (drop width xs) ≡ false → number (take width xs) ≡ number xs
cut_number xs width h = elim (cases_lt width (length xs)) [
  | inl low ↦ (let split = split_number xs width (omega arith) in
      let zero_above = none_one (drop width xs) h in
      sym (split ∙ ap (λ n. number (take width xs) + 2 ^ width * n) zero_above ∙ omega arith))
  | inr high ↦ ap number (take_all width xs high)
]

-- and what a one makes of the number
pub cut_high : (xs : List Bool) (width : ℕ) → list_any (λ bit. bit) (drop width xs) ≡ true → 2 ^ width ≤ number xs
cut_high xs width h = elim (cases_lt width (length xs)) [
  | inl low ↦ (let split = split_number xs width (omega arith) in
      let above = some_one (drop width xs) h in
      let whole = mul-le-mul_left (2 ^ width) above in
      omega arith)
  | inr high ↦ (let nothing = ap (list_any (λ (bit : Bool). bit)) (drop_all width xs high) in cc)
]

-- a number of so few bits is below the power of 2
pub number_short : (xs : List Bool) (width : ℕ) → length xs ≤ width → number xs < 2 ^ width
number_short xs width h = let below = number-below xs in let power = pow_mono {i = length xs} {j = width} h in omega arith

pub bits_of_all : (xs : List Bool) (width n : ℕ) → length xs ≡ width → number xs ≡ n → xs ≡ bits width n
bits_of_all xs width n e f = sym (bits-number xs) ∙ ap₂ bits e f

-- four bits more, of a hexadecimal digit in front
pub record HasDigits (xs : List Bool) (ds : List ℕ) (i all : ℕ) : Type 0 where
  pub count : length xs ≡ 4 * i
  pub value : all ≡ number xs + 2 ^ length xs * digits_value 16 (take (length ds - i) ds)

pub digit_more : (xs : List Bool) (ds : List ℕ) (i d all : ℕ) → i < length ds → d < 16 → d ≡ digit_value (get_or ds (length ds - 1 - i) 0) → HasDigits xs ds i all → HasDigits (xs ++ bits 4 d) ds (i + 1) all
digit_more xs ds i d all h small is before =
    let at : length ds - i ≡ length ds - (i + 1) + 1 = omega arith in
    let same : length ds - 1 - i ≡ length ds - (i + 1) = omega arith in
    let digit : d ≡ digit_value (get_or ds (length ds - (i + 1)) 0) = is ∙ ap (λ k. digit_value (get_or ds k 0)) same in
    let front = ap (λ k. digits_value 16 (take k ds)) at ∙ digits_value_more 16 ds (length ds - (i + 1)) (omega arith) in
    let product = ap (λ v. 2 ^ length xs * v) front in
    let one = ap (λ v. 2 ^ length xs * v) digit in
    let low = number-append xs (bits 4 d) in
    let nibble = ap (λ v. 2 ^ length xs * v) (number-bits 4 d ∙ mod-eq_of_lt small) in
    let size : length (xs ++ bits 4 d) ≡ length xs + 4 = length-append xs (bits 4 d) in
    let whole = ap (λ k. 2 ^ k * digits_value 16 (take (length ds - (i + 1)) ds)) size in
    let power = ap (λ k. k * digits_value 16 (take (length ds - (i + 1)) ds)) (pow-add 2 (length xs) 4) in
    let value = before.value in
    let count = before.count in
    record { count = omega arith; value = omega arith }

-- the number of one bit more
pub record NextBit (xs : List Bool) (i : ℕ) : Type 0 where
  pub next : number (take (i + 1) xs) ≡ number (take i xs) + 2 ^ i * once (get_or xs i false)
  pub fits : number (take (i + 1) xs) < 2 ^ 64

pub next_bit : (xs : List Bool) (i : ℕ) → i < length xs → length xs ≤ 64 → NextBit xs i
next_bit xs i h few =
    let count : length (take i xs) ≡ i = length-take-le i xs (omega arith) in
    let more = take_more xs i false h in
    let longer : length (take (i + 1) xs) ≤ 64 = rw (length-take-le (i + 1) xs (omega arith)) (omega arith) in
    record {
      next = ap number more
          ∙ number-append (take i xs) (get_or xs i false ∷ [])
          ∙ ap (λ k. number (take i xs) + 2 ^ k * number (get_or xs i false ∷ [])) count
          ∙ omega arith;
      fits = number_short (take (i + 1) xs) 64 longer;
    }

pub all_bits : (xs : List Bool) (i word : ℕ) → length xs ≤ i → word ≡ number (take i xs) → word < 2 ^ length xs
all_bits xs i word past e = let P : ℕ → Type 0 = λ n. n < 2 ^ length xs in subst P (sym (e ∙ ap number (take_all i xs past))) (number-below xs)
