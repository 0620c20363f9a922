-- Numbers and the bytes that spell them.
use Rattle.std.proofs.Common.{◌≡◌, ℕ, zero, suc, ◌+◌, ◌*◌, ◌/◌, ◌^◌, ◌<◌, ◌≤◌, List, [], ◌∷◌, length, take, get_or, refl, sym, ap, ap₂, ◌∙◌, arith, inl, inr}
use Rattle.std.proofs.Math.Nat.{mod-lt, mul-le-mul_right}
use Rattle.std.proofs.lemmas.Bool.{cases_lt}
use Rattle.std.proofs.lemmas.List.{get_or-take, get_or_past, length-take, append-nil}
use Rattle.std.specs.Int.{byte_at, bytes_high_first}
use Rattle.byteorder.specs.Endian.{big_from, big_number}
use Rattle.byteorder.specs.Numbers.{big_from-cons, big_from-take, big_from-lt, length-bytes_high_first, big_number-reads_back}
use Rattle.dealer_files.specs.File.{count_bytes, word_bytes, number_bytes}

abbrev pub IsBytes : List ℕ → Type 0
IsBytes bytes = (i : ℕ) → get_or bytes i 0 < 256

pub bytes-take : (n : ℕ) (bytes : List ℕ) → IsBytes bytes → IsBytes (take n bytes)
bytes-take n bytes h i =
    elim (cases_lt i n) [
      | inl lt ↦ rw (get_or-take n bytes i 0 lt) (h i)
      | inr le ↦ rw (get_or_past (take n bytes) i 0 (omega (arith, length-take n bytes))) (omega arith)
    ]

byte-small : (k n : ℕ) → byte_at k n < 256
byte-small zero n = mod-lt n (omega arith)
byte-small (suc k) n = mod-lt (n / 256 ^ suc k) (omega arith)

spelled-small : (k n : ℕ) → IsBytes (bytes_high_first k n)
spelled-small zero n i = omega arith
spelled-small (suc k) n zero = byte-small k n
spelled-small (suc k) n (suc i) = spelled-small k n i

tail-small : (x : ℕ) (xs : List ℕ) → IsBytes (x ∷ xs) → IsBytes xs
tail-small x xs h i = h (suc i)

-- the high digit of a number in a base
digit : (x y m n base : ℕ) → m < base → n < base → x * base + m ≡ y * base + n → x ≤ y
digit x y m n base p q e =
    elim (cases_lt y x) [
      | inl lt ↦ let more : (y + 1) * base ≤ x * base = mul-le-mul_right base (omega arith) in absurd (omega arith)
      | inr le ↦ omega arith
    ]

-- lists of as many bytes with one number are one list
pub big-same : (n : ℕ) (xs ys : List ℕ) → length xs ≡ n → length ys ≡ n → IsBytes xs → IsBytes ys →
    big_from 0 n xs ≡ big_from 0 n ys → xs ≡ ys
big-same zero [] [] p q f g e = refl
big-same zero [] (y ∷ ys) p q f g e = absurd (omega arith)
big-same zero (x ∷ xs) ys p q f g e = absurd (omega arith)
big-same (suc n) [] ys p q f g e = absurd (omega arith)
big-same (suc n) (x ∷ xs) [] p q f g e = absurd (omega arith)
big-same (suc n) (x ∷ xs) (y ∷ ys) p q f g e =
    let left = big_from-cons 0 n x xs in
    let right = big_from-cons 0 n y ys in
    let small = big_from-lt 0 n xs (tail-small x xs f) in
    let other = big_from-lt 0 n ys (tail-small y ys g) in
    let whole : x * 256 ^ n + big_from 0 n xs ≡ y * 256 ^ n + big_from 0 n ys = omega arith in
    let le = digit x y (big_from 0 n xs) (big_from 0 n ys) (256 ^ n) small other whole in
    let ge = digit y x (big_from 0 n ys) (big_from 0 n xs) (256 ^ n) other small (sym whole) in
    let first : x ≡ y = omega arith in
    let multiples : x * 256 ^ n ≡ y * 256 ^ n = ap (λ k. k * 256 ^ n) first in
    ap₂ (λ (z : ℕ) (zs : List ℕ). z ∷ zs) first
    (big-same n xs ys (omega arith) (omega arith) (tail-small x xs f) (tail-small y ys g) (omega arith))

number-again : (n x : ℕ) → x < 256 ^ n → big_from 0 n (bytes_high_first n x) ≡ x
number-again n x h = ap (big_from 0 n) (sym (append-nil (bytes_high_first n x))) ∙ big_number-reads_back n x [] h

-- the bytes of the number in the first bytes are these bytes
pub big-back : (n : ℕ) (bytes : List ℕ) → IsBytes bytes → n ≤ length bytes →
    bytes_high_first n (big_number n bytes) ≡ take n bytes
big-back n bytes small long =
    let first = big_from-take 0 n n bytes (omega arith) in
    let below = big_from-lt 0 n bytes small in
    let count = length-take n bytes in
    big-same n (bytes_high_first n (big_number n bytes)) (take n bytes)
    (length-bytes_high_first n (big_number n bytes)) (omega arith)
    (spelled-small n (big_number n bytes)) (bytes-take n bytes small)
    (number-again n (big_number n bytes) below ∙ sym first)

pub word_back : (n : ℕ) (bytes : List ℕ) → IsBytes bytes → 8 ≤ length bytes → n ≡ big_number 8 bytes →
    word_bytes n ≡ take 8 bytes
unfolding word_bytes
word_back n bytes small long e = ap (bytes_high_first 8) e ∙ big-back 8 bytes small long

pub number_back : (n : ℕ) (bytes : List ℕ) → IsBytes bytes → 16 ≤ length bytes → n ≡ big_number 16 bytes →
    number_bytes n ≡ take 16 bytes
unfolding number_bytes
number_back n bytes small long e = ap (bytes_high_first 16) e ∙ big-back 16 bytes small long

pub count_back : (n : ℕ) (bytes : List ℕ) → IsBytes bytes → 4 ≤ length bytes → n ≡ big_number 4 bytes →
    count_bytes n ≡ take 4 bytes
unfolding count_bytes
count_back n bytes small long e = ap (bytes_high_first 4) e ∙ big-back 4 bytes small long
