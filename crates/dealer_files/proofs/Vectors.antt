-- Bits of records as a vector.
use Rattle.std.proofs.Common.{◌≡◌, ℕ, ◌+◌, ◌-◌, ◌*◌, ◌^◌, ◌<◌, ◌≤◌, List, ◌∷◌, length, drop, map, get_or, refl, sym, ap, ◌∙◌, arith, add-one}
use Rattle.std.specs.Prelude.{◌==◌}
use Rattle.std.specs.Int.{bit_at}
use Rattle.std.proofs.Math.Seq.{drop-cons}
use Rattle.std.proofs.Math.Pow.{pow_mono}
use Rattle.std.proofs.lemmas.Nat.Bits.{bit_at-lt}
use Rattle.std.proofs.lemmas.Bool.Decides.{nat_tests}
use Rattle.std.proofs.lemmas.List.{length-map, length-drop, drop_all}
use Rattle.share_types.specs.Bits.{once}
use Rattle.share_types.proofs.BitsLemmas.{number-below}
use Rattle.dealer_files.specs.Records.{vector_of}

pub once-bit : (n : ℕ) → n < 2 → once (n == 1) ≡ n
once-bit n h = grind (arith, nat_tests)

pub vector-cons : (bit r : ℕ) (rs : List ℕ) → vector_of bit (r ∷ rs) ≡ 2 * vector_of bit rs + bit_at r bit
unfolding vector_of
vector-cons bit r rs =
    let one = once-bit (bit_at r bit) (bit_at-lt r bit) in
    omega arith

pub vector-small : (bit : ℕ) (rs : List ℕ) → vector_of bit rs < 2 ^ length rs
unfolding vector_of
vector-small bit rs =
    rw (sym (length-map rs (λ r. bit_at r bit == 1))) (number-below (map (λ r. bit_at r bit == 1) rs))

-- one record more in front
pub vector-more : (bit i : ℕ) (rs : List ℕ) → i < length rs →
    vector_of bit (drop i rs) ≡ 2 * vector_of bit (drop (i + 1) rs) + bit_at (get_or rs i 0) bit
vector-more bit i rs h =
    ap (vector_of bit) (rw (add-one, drop-cons rs i 0) refl) ∙ vector-cons bit (get_or rs i 0) (drop (i + 1) rs)

pub vector-none : (bit : ℕ) (rs : List ℕ) → vector_of bit (drop (length rs - 0) rs) ≡ 0
unfolding vector_of
vector-none bit rs = rw (drop_all (length rs - 0) rs (omega arith)) refl

pub vector-step : (bit : ℕ) (rs : List ℕ) (at word : ℕ) → at < length rs →
    word ≡ vector_of bit (drop (length rs - at) rs) →
    2 * word + bit_at (get_or rs (length rs - 1 - at) 0) bit ≡ vector_of bit (drop (length rs - (at + 1)) rs)
vector-step bit rs at word h e =
    let more = vector-more bit (length rs - 1 - at) rs (omega arith) in
    let here : length rs - (at + 1) ≡ length rs - 1 - at = omega arith in
    let next : length rs - at ≡ length rs - 1 - at + 1 = omega arith in
    let was : word ≡ vector_of bit (drop (length rs - 1 - at + 1) rs) = e ∙ ap (λ i. vector_of bit (drop i rs)) next in
    rw (here, more) (ap (λ n. 2 * n + bit_at (get_or rs (length rs - 1 - at) 0) bit) was)

pub vector-room : (bit : ℕ) (rs : List ℕ) (at word : ℕ) → at < length rs → length rs ≤ 64 →
    word ≡ vector_of bit (drop (length rs - at) rs) → 2 * word + 1 < 2 ^ 64
vector-room bit rs at word h most e =
    let small = vector-small bit (drop (length rs - at) rs) in
    let count = length-drop (length rs - at) rs in
    let power : 2 ^ length (drop (length rs - at) rs) ≤ 2 ^ 63 = pow_mono {i = length (drop (length rs - at) rs)} {j = 63} (omega arith) in
    omega arith

pub vector-whole : (bit : ℕ) (rs : List ℕ) (at word : ℕ) → length rs ≤ at →
    word ≡ vector_of bit (drop (length rs - at) rs) → word ≡ vector_of bit rs
vector-whole bit rs at word h e =
    e ∙ ap (λ i. vector_of bit (drop i rs)) (let none : length rs - at ≡ 0 = omega arith in none)
