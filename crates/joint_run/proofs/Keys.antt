-- Numbers of 128 bits: what hides the keys of tables, zero keys, and the offsets and keys of records.
use Rattle.std.proofs.Common.{ℕ, zero, suc, ◌≡◌, ◌+◌, ◌%◌, ◌^◌, ◌<◌, Bool, true, false, List, [], ◌∷◌, ◌++◌, map, refl, sym, ap, ◌∙◌, arith}
use Rattle.std.specs.Prelude.{slice_index, bit_xor}
use Rattle.std.specs.Int.{w32, to_be_bytes}
use Rattle.std.proofs.Math.Nat.{mod-lt}
use Rattle.std.proofs.lemmas.Nat.{pow_pos, xor_mod}
use Rattle.byteorder.specs.Numbers.{big_from-lt}
use Rattle.sha2.specs.Sha256.{sha256, digest_bytes}
use Rattle.rand_chacha.specs.Block.{block_word}
use Rattle.mot_base.specs.Tape.{word_of_tape}
use Rattle.share_types.specs.Sums.{xor_to}
use Rattle.share_types.specs.declared.keys.Key.{Key}
use Rattle.share_types.specs.Keys.{times, key_at}
use Rattle.bmr_keys.specs.Hiding.{hiding_key, first_key, zero_key_of, zero_key_place}

abbrev AreBytes : List ℕ → Type 0
AreBytes bytes = (k : ℕ) → slice_index bytes k < 256

joined_bytes : (xs ys : List ℕ) → AreBytes xs → AreBytes ys → AreBytes (xs ++ ys)
joined_bytes [] ys p q k = q k
joined_bytes (x ∷ xs) ys p q zero = p zero
joined_bytes (x ∷ xs) ys p q (suc k) = joined_bytes xs ys (λ i. p (suc i)) q k

word_bytes : (x : ℕ) → AreBytes (to_be_bytes w32 x)
word_bytes x zero = omega arith
word_bytes x (suc zero) = omega arith
word_bytes x (suc (suc zero)) = omega arith
word_bytes x (suc (suc (suc zero))) = omega arith
word_bytes x (suc (suc (suc (suc k)))) = omega arith

hash_bytes : (h : List ℕ) (n : ℕ) → AreBytes (digest_bytes h n)
unfolding digest_bytes
hash_bytes h zero k = omega arith
hash_bytes h (suc n) k = joined_bytes (digest_bytes h n) (to_be_bytes w32 (slice_index h n)) (hash_bytes h n) (word_bytes (slice_index h n)) k

pub hiding_low : (x y gate index row owner : ℕ) → hiding_key x y gate index row owner < 2 ^ 128
unfolding hiding_key first_key sha256
hiding_low x y gate index row owner = big_from-lt 0 16 (sha256 _) (hash_bytes _ 8)

word_low : (seed : List ℕ) (place : ℕ) → word_of_tape seed place < 2 ^ 32
unfolding word_of_tape block_word
word_low seed place = mod-lt _ (pow_pos 32)

pub zero_low : (seed : List ℕ) (record_number : ℕ) → zero_key_of seed record_number < 2 ^ 128
unfolding zero_key_of
zero_low seed record_number =
    let place = zero_key_place record_number in
    let a = word_low seed place in
    let b = word_low seed (place + 1) in
    let c = word_low seed (place + 2) in
    let d = word_low seed (place + 2 + 1) in
    omega (arith, a, b, c, d)

pub times_low : (b : Bool) (k : ℕ) → k < 2 ^ 128 → times b k < 2 ^ 128
times_low true k h = h
times_low false k h = pow_pos 128

-- ---- keys of 128 bits

pub times_cut : (b : Bool) (k : ℕ) → times b k % 2 ^ 128 ≡ times b (k % 2 ^ 128)
times_cut true k = refl
times_cut false k = refl

pub xor_cut : (n : ℕ) (f : ℕ → ℕ) → xor_to n (λ p. f p % 2 ^ 128) ≡ xor_to n f % 2 ^ 128
xor_cut zero f = refl
xor_cut (suc n) f = ap (λ m. bit_xor m (f n % 2 ^ 128)) (xor_cut n f) ∙ sym (xor_mod (xor_to n f) (f n) 128)

pub key_cut : (keys : List Key) (j : ℕ) → key_at (map (λ key. record { 0 = key.0 % 2 ^ 128 }) keys) j ≡ key_at keys j % 2 ^ 128
key_cut [] j = refl
key_cut (k ∷ keys) zero = refl
key_cut (k ∷ keys) (suc j) = key_cut keys j
