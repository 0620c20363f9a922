-- What is read of payloads is what was written there.
use Rattle.std.proofs.Common.{ℕ, zero, suc, ◌≡◌, ◌<◌, ◌≤◌, ◌+◌, ◌*◌, ◌%◌, ◌^◌, List, [], ◌∷◌, ◌++◌, Option, Some, drop, refl, sym, ◌∙◌, ap, subst, arith, pow-add}
use Rattle.std.specs.Prelude.{slice_get}
use Rattle.std.specs.List.{flat_map}
use Rattle.std.specs.Option.{unwrap_or}
use Rattle.std.proofs.Math.Seq.{drop-append-add}
use Rattle.std.proofs.Math.Nat.{mod-eq_of_lt, pow-suc}
use Rattle.std.proofs.Math.Pow.{pow_mono}
use Rattle.byteorder.specs.Numbers.{big_from-bytes, length-bytes_high_first}
use Rattle.byteorder.specs.Endian.{big_bytes, big_number}
use Rattle.message_demux.specs.Slots.{vector_bytes}
use Rattle.joint_run.specs.Laws.{PayloadsReadBack}

-- a number in the bytes of numbers of n bytes each is the number at its place there, below 256 ^ n
number_back : (n : ℕ) (xs : List ℕ) (i x : ℕ) → slice_get xs i ≡ Some x →
    big_number n (drop (n * i) (flat_map (big_bytes n) xs)) ≡ x % 256 ^ n
number_back n [] i x found = cc
number_back n (y ∷ xs) zero x found =
    let start : n * 0 ≡ 0 = omega arith in
    ap (λ k. big_number n (drop k (big_bytes n y ++ flat_map (big_bytes n) xs))) start
    ∙ (big_from-bytes n y (flat_map (big_bytes n) xs) ∙ ap (λ (o : Option ℕ). unwrap_or o y % 256 ^ n) found)
number_back n (y ∷ xs) (suc i) x found =
    let next : n * suc i ≡ n + n * i = omega arith in
    let length_is = length-bytes_high_first n y in
    ap (λ k. big_number n (drop k (big_bytes n y ++ flat_map (big_bytes n) xs))) (next ∙ ap (λ k. k + n * i) (sym length_is))
    ∙ (ap (big_number n) (drop-append-add (big_bytes n y) (flat_map (big_bytes n) xs) (n * i)) ∙ number_back n xs i x found)

-- a vector fits in its bytes
bytes_hold : (w : ℕ) → 2 ^ w ≤ 256 ^ vector_bytes w
bytes_hold w = subst (λ n. 2 ^ w ≤ n) (sym (power (vector_bytes w))) (pow_mono (omega arith))
  where
    next : (k : ℕ) → 256 ^ suc k ≡ 256 ^ k * 256
    next k = pow-suc 256 k

    power : (k : ℕ) → 256 ^ k ≡ 2 ^ (8 * k)
    power zero = refl
    power (suc k) =
        let more : 8 * suc k ≡ 8 * k + 8 = omega arith in
        let before = power k in
        let split : 2 ^ (8 * suc k) ≡ 2 ^ (8 * k) * 256 = ap (λ n. 2 ^ n) more ∙ pow-add 2 (8 * k) 8 in
        next k ∙ (ap (λ p. p * 256) before ∙ sym split)

-- the number of a vector fits in its bytes
pub fits_bytes : (w x : ℕ) → x < 2 ^ w → x < 256 ^ vector_bytes w
fits_bytes w x small = let hold = bytes_hold w in omega (arith, small, hold)

pub payloads_read_back : PayloadsReadBack
payloads_read_back = (
  (λ words i word found. number_back 8 words i word found),
  (λ width vectors i vector found small. let hold = bytes_hold width in
      number_back (vector_bytes width) vectors i vector found ∙ mod-eq_of_lt (omega (arith, small, hold))),
)
