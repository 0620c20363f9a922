-- Words that were drawn, their sums and their XORs.
use Rattle.std.proofs.Common.{◌≡◌, ℕ, zero, suc, ◌+◌, ◌*◌, ◌%◌, ◌^◌, ◌<◌, ◌≤◌, List, length, map, get_or, refl, sym, ap, ◌∙◌, arith}
use Rattle.std.specs.Prelude.{bit_xor, bit_and}
use Rattle.std.specs.List.{range_with_len}
use Rattle.std.proofs.Math.Nat.{mul-le-mul_left}
use Rattle.std.proofs.lemmas.List.FromFn.{get_or-map-range_with_len}
use Rattle.mot_base.specs.Tape.{word_of_tape, long_word_of_tape, key_of_tape}
use Rattle.share_types.proofs.Parties.{sum_to_more, xor_to_more}
use Rattle.dealer_maker.specs.Draws.{Drawn, word_total, word_xor, key_xor}

pub read-word : (seed words : List ℕ) (d : Drawn) (place : ℕ) →
    words ≡ map (word_of_tape seed) (range_with_len 0 (length words)) →
    record { seed = seed; count = length words } ≡ d → place < d.count → get_or words place 0 ≡ word_of_tape d.seed place
read-word seed words d place are view inside =
    let few : d.count ≡ length words = sym (ap (λ v. v.count) view) in
    ap (λ ws. get_or ws place 0) are
    ∙ (get_or-map-range_with_len (word_of_tape seed) 0 (length words) place place 0 (omega arith) (omega arith)
    ∙ ap (λ v. word_of_tape v.seed place) view)

pub total-none : (seed : List ℕ) (from step : ℕ) → word_total seed from step 0 ≡ 0
unfolding word_total
total-none seed from step = refl

pub total-more : (seed : List ℕ) (from step i : ℕ) →
    (word_total seed from step i + long_word_of_tape seed (from + step * i)) % 2 ^ 64 ≡ word_total seed from step (i + 1)
unfolding word_total
total-more seed from step i =
    let more = sum_to_more i (λ q. long_word_of_tape seed (from + step * q)) in
    rw more (omega arith)

pub xor-none : (seed : List ℕ) (from : ℕ) → word_xor seed from 0 ≡ 0
unfolding word_xor
xor-none seed from = refl

pub xor-more : (seed : List ℕ) (from i : ℕ) →
    bit_xor (word_xor seed from i) (word_of_tape seed (from + i)) ≡ word_xor seed from (i + 1)
unfolding word_xor
xor-more seed from i = sym (xor_to_more i (λ q. word_of_tape seed (from + q)))

pub key_xor-none : (seed : List ℕ) (from : ℕ) → key_xor seed from 0 ≡ 0
unfolding key_xor
key_xor-none seed from = refl

pub key_xor-more : (seed : List ℕ) (from i : ℕ) →
    bit_xor (key_xor seed from i) (key_of_tape seed (from + 4 * i)) ≡ key_xor seed from (i + 1)
unfolding key_xor
key_xor-more seed from i = sym (xor_to_more i (λ q. key_of_tape seed (from + 4 * q)))

-- a word that is not the last stands whole inside
pub stands-inside : (from step i count most : ℕ) → i < count → from + step * count ≤ most → from + step * i + step ≤ most
stands-inside from step i count most h inside =
    let more : step * (i + 1) ≤ step * count = mul-le-mul_left step (omega arith) in
    omega arith

pub left_small : (a b c : ℕ) → a < 2 → b < 2 → c < 2 → bit_xor (bit_and a b) c < 2
left_small zero zero zero p q r = omega arith
left_small zero zero (suc zero) p q r = omega arith
left_small zero (suc zero) zero p q r = omega arith
left_small zero (suc zero) (suc zero) p q r = omega arith
left_small (suc zero) zero zero p q r = omega arith
left_small (suc zero) zero (suc zero) p q r = omega arith
left_small (suc zero) (suc zero) zero p q r = omega arith
left_small (suc zero) (suc zero) (suc zero) p q r = omega arith
left_small (suc (suc a)) b c p q r = absurd (omega arith)
left_small zero (suc (suc b)) c p q r = absurd (omega arith)
left_small (suc zero) (suc (suc b)) c p q r = absurd (omega arith)
left_small zero zero (suc (suc c)) p q r = absurd (omega arith)
left_small zero (suc zero) (suc (suc c)) p q r = absurd (omega arith)
left_small (suc zero) zero (suc (suc c)) p q r = absurd (omega arith)
left_small (suc zero) (suc zero) (suc (suc c)) p q r = absurd (omega arith)
