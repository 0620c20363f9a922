-- Records that are drawn one after another.
use Rattle.std.proofs.Common.{◌≡◌, ℕ, ◌+◌, ◌-◌, ◌*◌, ◌%◌, ◌^◌, ◌<◌, ◌≤◌, Bool, true, false, List, [], ◌∷◌, ◌++◌, length, All, sym, ap, ap₂, subst, ◌∙◌, arith}
use Rattle.std.specs.Prelude.{nat_eq, if◌then◌else◌}
use Rattle.std.specs.Int.{bit_at}
use Rattle.std.proofs.Math.Nat.{mul-le-mul_right}
use Rattle.std.proofs.lemmas.Nat.Bits.{bit_at-lt}
use Rattle.std.proofs.lemmas.List.FromFn.{map-range_with_len_more, get_or-map-range_with_len, length-map-range_with_len}
use Rattle.mot_base.specs.Tape.{key_of_tape}
use Rattle.share_types.specs.declared.needs.Needs.{Needs}
use Rattle.dealer_files.specs.Part.{IsPart}
use Rattle.dealer_maker.specs.Draws.{rows, word_xor, offset_drawn, mult_drawn, bit_drawn, shared_drawn, share_drawn, key_drawn, part_drawn, mult_words, shared_words, key_words, mult_begin, bit_begin, shared_begin, key_begin}
use Rattle.dealer_maker.proofs.Drawing.{left_small}

pub rows-more : {X : Type 0} (drawn : ℕ → X) (begin size at place : ℕ) (list : List X) (x : X) →
    place ≡ begin + size * at → list ≡ rows drawn begin size at → x ≡ drawn place →
    list ++ x ∷ [] ≡ rows drawn begin size (at + 1)
rows-more drawn begin size at place list x there so_far one =
    ap₂ (λ ys y. ys ++ y ∷ []) so_far (one ∙ ap drawn there)
    ∙ sym (map-range_with_len_more (λ i. drawn (begin + size * i)) 0 at at (omega arith))

pub rows-length : {X : Type 0} (drawn : ℕ → X) (begin size count : ℕ) → length (rows drawn begin size count) ≡ count
rows-length drawn begin size count = length-map-range_with_len (λ i. drawn (begin + size * i)) 0 count

pub rows-all : {X : Type 0} (P : X → Type 0) (drawn : ℕ → X) (begin size count : ℕ) → ((place : ℕ) → P (drawn place)) →
    All P (rows drawn begin size count)
rows-all P drawn begin size count each i d h =
    let few = rows-length drawn begin size count in
    subst P (sym (get_or-map-range_with_len (λ k. drawn (begin + size * k)) 0 count i i d (omega arith) (omega arith)))
    (each (begin + size * i))

pub words-fit : (n m b s k : ℕ) → 2 ≤ n → n ≤ 8 → m < 2 ^ 32 → b < 2 ^ 32 → s < 2 ^ 32 → k < 2 ^ 32 →
    2 + 4 * n + (4 * n + 2 * (n - 1)) * m + n * b + (n + 2 * (n - 1)) * s + (n + 4 * (n - 1) * n) * k < 2 ^ 64
words-fit n m b s k some most fm fb fs fk =
    let first : (4 * n + 2 * (n - 1)) * m ≤ 46 * m = mul-le-mul_right m (omega arith) in
    let second : n * b ≤ 8 * b = mul-le-mul_right b most in
    let third : (n + 2 * (n - 1)) * s ≤ 22 * s = mul-le-mul_right s (omega arith) in
    let inner : 4 * (n - 1) * n ≤ 28 * n = mul-le-mul_right n (omega arith) in
    let last : (n + 4 * (n - 1) * n) * k ≤ 232 * k = mul-le-mul_right k (omega arith) in
    omega arith

either-small : (b : Bool) (x y : ℕ) → x < 8 → y < 8 → (if b then x else y) < 8
either-small true x y p q = p
either-small false x y p q = q

pub three-bits : (seed : List ℕ) (n party from : ℕ) → bit_drawn seed n party from < 8
unfolding bit_drawn
three-bits seed n party from =
    let left = left_small (bit_at (word_xor seed from n) 0) (bit_at (word_xor seed from n) 1)
    (bit_at (word_xor seed (from + 1) (n - 1)) 2) (bit_at-lt (word_xor seed from n) 0) (bit_at-lt (word_xor seed from n) 1)
    (bit_at-lt (word_xor seed (from + 1) (n - 1)) 2) in
    either-small (nat_eq party 0) _ _ (omega arith) (omega arith)

pub owners : (seed : List ℕ) (n party from : ℕ) → length (key_drawn seed n party from).times ≡ n
unfolding key_drawn
owners seed n party from = length-map-range_with_len (share_drawn seed n party from) 0 n

odd-number : (k : ℕ) → (k - k % 2 + 1) % 2 ≡ 1
odd-number k = omega arith

pub odd : (seed : List ℕ) (party : ℕ) → offset_drawn seed party % 2 ≡ 1
unfolding offset_drawn
odd seed party = odd-number (key_of_tape seed (2 + 4 * party))

pub drawn-is-part : (seed : List ℕ) (n : ℕ) (counts : Needs) (party : ℕ) → 2 ≤ n → n ≤ 8 → party < n →
    counts.mult < 2 ^ 32 → counts.bit < 2 ^ 32 → counts.shared < 2 ^ 32 → counts.key < 2 ^ 32 →
    IsPart (part_drawn seed n counts party)
unfolding part_drawn
drawn-is-part seed n counts party some most inside fm fb fs fk =
    let m = rows-length (mult_drawn seed n party) (mult_begin n) (mult_words n) counts.mult in
    let b = rows-length (bit_drawn seed n party) (bit_begin n counts) n counts.bit in
    let s = rows-length (shared_drawn seed n party) (shared_begin n counts) (shared_words n) counts.shared in
    let k = rows-length (key_drawn seed n party) (key_begin n counts) (key_words n) counts.key in
    record {
      some_parties = some;
      most_parties = most;
      party = inside;
      odd = odd seed party;
      mult = rw m fm;
      bit = rw b fb;
      shared = rw s fs;
      key = rw k fk;
      three_bits = rows-all (λ r. r < 8) (bit_drawn seed n party) (bit_begin n counts) n counts.bit (three-bits seed n party);
      each_owner = rows-all (λ r. length r.times ≡ n) (key_drawn seed n party) (key_begin n counts) (key_words n) counts.key
          (owners seed n party);
    }
