-- A part in memory that stands for a party's part, after each call.
use Rattle.std.proofs.Common.{◌≡◌, ℕ, ◌+◌, ◌-◌, ◌*◌, ◌/◌, ◌%◌, ◌^◌, ◌<◌, ◌≤◌, List, ◌++◌, length, get_or, drop, sym, ap, ap₂, subst, ◌∙◌, arith, inl, inr, length-append}
use Rattle.std.specs.Prelude.{All}
use Rattle.std.specs.List.{flat_map, slice_range}
use Rattle.std.proofs.lemmas.Bool.{cases_lt}
use Rattle.std.proofs.lemmas.List.{length-take, length-drop}
use Rattle.std.proofs.lemmas.Nat.{div-mul-add}
use Rattle.std.proofs.Math.Nat.{mod-eq_of_lt, mul-le-mul_left}
use Rattle.share_types.specs.Bits.{number}
use Rattle.share_types.specs.Sums.{each, part_of_public}
use Rattle.share_types.specs.Keys.{◌⊕◌, key_at, key_of}
use Rattle.share_types.specs.declared.keys.Key.{Key}
use Rattle.share_types.specs.declared.records.KeyBit.{KeyBit}
use Rattle.share_types.proofs.Parties.{length-each}
use Rattle.bmr_keys.specs.declared.part.MaskPart.{MaskPart}
use Rattle.bmr_keys.specs.Mask.{Mask, IsPart, owners_of, fresh_mask, flip_mask, slice_mask, join_mask, own_times, behind}
use Rattle.bmr_keys.proofs.KeyLists.{place-inside, key_at-each, key_at-low, key_at-high, key_at-range, records-length, records-at, no_record}
use Rattle.bmr_keys.proofs.Labels.{cut-inside}
use Rattle.bmr_keys.proofs.Masks.{behind-inside, behind-outside}

-- rows of n places each, of a width that is not 0, have n places each
pub row-count : (count width n w : ℕ) → count ≡ w * n → width ≡ w → 1 ≤ w → count / width ≡ n
row-count count width n w e f some =
    let turned : w * n ≡ n * w + 0 = omega arith in
    ap₂ (λ (a b : ℕ). a / b) (e ∙ turned) f ∙ div-mul-add n w 0 some

-- a part has as many owners as it stands for
pub owners-are : (n w : ℕ) (u : Mask) (part : MaskPart) → IsPart n w u part → 1 ≤ w → owners_of part ≡ n
owners-are n w u part p some = row-count (length part.times) part.mask.width n w p.share_count p.width some

pub range-length : {X : Type 0} (xs : List X) (from to : ℕ) → from ≤ to → to ≤ length xs → length (slice_range xs from to) ≡ to - from
range-length xs from to p q =
    let some = length-drop from xs in
    length-take (to - from) (drop from xs) ∙ omega arith

-- some bits of a list by bit and owner
pub range-at : (keys : List Key) (n at w i j : ℕ) → i < w → j < n →
    key_of n (slice_range keys (at * n) ((at + w) * n)) i j ≡ key_of n keys (at + i) j
range-at keys n at w i j p q =
    let inside = place-inside n w i j p q in
    let place : at * n + (i * n + j) ≡ (at + i) * n + j = omega arith in
    key_at-range keys (at * n) ((at + w) * n) (i * n + j) (omega arith) ∙ ap (key_at keys) place

-- the bits of two lists by bit and owner behind one another
pub joined-low : (xs ys : List Key) (n w i j : ℕ) → length xs ≡ w * n → i < w → j < n → key_of n (xs ++ ys) i j ≡ key_of n xs i j
joined-low xs ys n w i j e p q =
    let inside = place-inside n w i j p q in
    key_at-low xs ys (i * n + j) (omega arith)

rows_behind : (n w k j : ℕ) → (w + k) * n + j - w * n ≡ k * n + j
rows_behind n w k j = omega arith

pub joined-high : (xs ys : List Key) (n w i j : ℕ) → length xs ≡ w * n → w ≤ i → j < n → key_of n (xs ++ ys) i j ≡ key_of n ys (i - w) j
joined-high xs ys n w i j e p q =
    let k = i - w in
    let row : i ≡ w + k = omega arith in
    ap (λ r. key_of n (xs ++ ys) r j) row
    ∙ (key_at-high xs ys (w * n) ((w + k) * n + j) e (omega arith) ∙ ap (key_at ys) (rows_behind n w k j))

-- the same told with other words for the owners, the width and the list
pub told_of : (a n v w me offset c : ℕ) (made xs ys : List Key) → a ≡ n → v ≡ w → xs ≡ ys →
    ((i j : ℕ) → i < v → j < a → key_of a made i j ≡ key_of a xs i j ⊕ own_times me offset c i j) →
    (i j : ℕ) → i < w → j < n → key_of n made i j ≡ key_of n ys i j ⊕ own_times me offset c i j
told_of a n v w me offset c made xs ys e f g told =
    let P : ℕ → Type 0 = λ m. (i j : ℕ) → i < v → j < m → key_of m made i j ≡ key_of m xs i j ⊕ own_times me offset c i j in
    let Q : ℕ → Type 0 = λ m. (i j : ℕ) → i < m → j < n → key_of n made i j ≡ key_of n xs i j ⊕ own_times me offset c i j in
    let R : List Key → Type 0 = λ zs. (i j : ℕ) → i < w → j < n → key_of n made i j ≡ key_of n zs i j ⊕ own_times me offset c i j in
    subst R g (subst Q f (subst P e told))

pub flipped : (n w me offset c : ℕ) (u : Mask) (part made : MaskPart) → IsPart n w u part →
    made.mask.width ≡ w → made.mask.word ≡ part.mask.word ⊕ part_of_public me c → made.keys ≡ part.keys →
    length made.times ≡ length part.times →
    ((i j : ℕ) → i < w → j < n → key_of n made.times i j ≡ key_of n part.times i j ⊕ own_times me offset c i j) →
    IsPart n w (flip_mask me offset u c) made
flipped n w me offset c u part made p width word keys count told = record {
  width = width;
  mask = word ∙ ap (λ m. m ⊕ part_of_public me c) p.mask;
  key_count = ap length keys ∙ p.key_count;
  keys = λ i less. ap (λ ks. key_at ks i) keys ∙ p.keys i less;
  share_count = count ∙ p.share_count;
  shares = λ i j less small. told i j less small ∙ ap (λ m. m ⊕ own_times me offset c i j) (p.shares i j less small);
}

pub sliced : (n w at width owners : ℕ) (u : Mask) (part made : MaskPart) → IsPart n w u part → at + width ≤ w → owners ≡ n →
    made.mask.width ≡ width → made.mask.word ≡ part.mask.word / 2 ^ at % 2 ^ width →
    made.keys ≡ slice_range part.keys at (at + width) →
    made.times ≡ slice_range part.times (at * owners) ((at + width) * owners) →
    IsPart n width (slice_mask at width u) made
sliced n w at width owners u part made p inside same wide word keys times =
    let shares : made.times ≡ slice_range part.times (at * n) ((at + width) * n) =
    times ∙ ap (λ k. slice_range part.times (at * k) ((at + width) * k)) same in
    let rows : n * (at + width) ≤ n * w = mul-le-mul_left n inside in
    let key_count = p.key_count in
    let share_count = p.share_count in record {
      width = wide;
      mask = word ∙ ap (λ m. m / 2 ^ at % 2 ^ width) p.mask;
      key_count = ap length keys ∙ (range-length part.keys at (at + width) (omega arith) (omega arith) ∙ omega arith);
      keys = λ i less.
          ap (λ ks. key_at ks i) keys ∙ (key_at-range part.keys at (at + width) i (omega arith)
          ∙ (p.keys (at + i) (omega arith) ∙ sym (cut-inside width (λ k. u.keys (at + k)) i less)));
      share_count = ap length shares ∙ (range-length part.times (at * n) ((at + width) * n) (omega arith) (omega arith) ∙ omega arith);
      shares = λ i j less small.
          ap (λ ks. key_of n ks i j) shares ∙ (range-at part.times n at width i j less small
          ∙ (p.shares (at + i) j (omega arith) small ∙ sym (cut-inside width (λ k. u.shares (at + k) j) i less)));
    }

pub joined-parts : (n w k : ℕ) (u v : Mask) (low high made : MaskPart) → IsPart n w u low → IsPart n k v high →
    made.mask.width ≡ w + k → made.mask.word ≡ low.mask.word + 2 ^ w * high.mask.word → low.mask.word < 2 ^ w →
    made.keys ≡ low.keys ++ high.keys → made.times ≡ low.times ++ high.times →
    IsPart n (w + k) (join_mask w u v) made
joined-parts n w k u v low high made p q wide word small keys times = record {
  width = wide;
  mask = word ∙ (ap (λ m. m + 2 ^ w * high.mask.word) (sym (mod-eq_of_lt small))
      ∙ ap₂ (λ (a b : ℕ). a % 2 ^ w + 2 ^ w * b) p.mask q.mask);
  key_count = ap length keys ∙ (length-append low.keys high.keys ∙ ap₂ (λ (a b : ℕ). a + b) p.key_count q.key_count);
  keys = λ i less. ap (λ ks. key_at ks i) keys ∙ key_behind i less;
  share_count =
      ap length times ∙ (length-append low.times high.times
      ∙ (ap₂ (λ (a b : ℕ). a + b) p.share_count q.share_count ∙ omega arith));
  shares = λ i j less inside. ap (λ ks. key_of n ks i j) times ∙ share_behind i j less inside;
}
  where
    key_behind : (i : ℕ) → i < w + k → key_at (low.keys ++ high.keys) i ≡ behind w u.keys v.keys i
    key_behind i less = elim (cases_lt i w) as (λ _. key_at (low.keys ++ high.keys) i ≡ behind w u.keys v.keys i) [
      | inl before ↦
          (let count = p.key_count in
          key_at-low low.keys high.keys i (omega arith) ∙ (p.keys i before ∙ sym (behind-inside w u.keys v.keys i before)))
      | inr after ↦
          key_at-high low.keys high.keys w i p.key_count after
          ∙ (q.keys (i - w) (omega arith) ∙ sym (behind-outside w u.keys v.keys i after))
    ]

    share_behind : (i j : ℕ) → i < w + k → j < n →
        key_of n (low.times ++ high.times) i j ≡ behind w (λ m. u.shares m j) (λ m. v.shares m j) i
    share_behind i j less inside = elim (cases_lt i w) as
        (λ _. key_of n (low.times ++ high.times) i j ≡ behind w (λ m. u.shares m j) (λ m. v.shares m j) i) [
          | inl before ↦
              joined-low low.times high.times n w i j p.share_count before inside
              ∙ (p.shares i j before inside ∙ sym (behind-inside w (λ m. u.shares m j) (λ m. v.shares m j) i before))
          | inr after ↦
              joined-high low.times high.times n w i j p.share_count after inside
              ∙ (q.shares (i - w) j (omega arith) inside ∙ sym (behind-outside w (λ m. u.shares m j) (λ m. v.shares m j) i after))
        ]

pub made-fresh : (n : ℕ) (part : List KeyBit) (zero_keys : ℕ → ℕ) (made : MaskPart) →
    All (λ key_bit. length key_bit.times ≡ n) part →
    made.mask.width ≡ length part → made.mask.word ≡ number (each (length part) (λ i. (get_or part i no_record).bit)) →
    made.keys ≡ each (length part) (λ i. record { 0 = zero_keys i }) →
    made.times ≡ flat_map (λ key_bit. key_bit.times) part →
    IsPart n (length part) (fresh_mask (length part) (λ i. get_or part i no_record) zero_keys) made
made-fresh n part zero_keys made all wide word keys times = record {
  width = wide;
  mask = word;
  key_count = ap length keys ∙ length-each (length part) (λ i. let key : Key = record { 0 = zero_keys i } in key);
  keys = λ i less. key_at-each (length part) zero_keys made.keys i keys less ∙ sym (cut-inside (length part) zero_keys i less);
  share_count = ap length times ∙ records-length n part all;
  shares = λ i j less inside.
      ap (λ ks. key_of n ks i j) times ∙ (records-at n part no_record i j all less inside
      ∙ sym (cut-inside (length part) (λ k. key_at (get_or part k no_record).times j) i less));
}
