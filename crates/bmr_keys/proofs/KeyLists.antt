-- Lists of keys by bit and owner.
use Rattle.std.proofs.Common.{◌≡◌, ◌≢◌, ℕ, zero, suc, ◌+◌, ◌-◌, ◌*◌, ◌^◌, ◌<◌, ◌≤◌, Bool, false, nat_lt, if◌then◌else◌, List, [], ◌∷◌, ◌++◌, length, get_or, drop, refl, sym, ap, ap₂, subst, ◌∙◌, arith, add-one, inl, inr, length-append}
use Rattle.std.specs.Prelude.{All}
use Rattle.std.specs.List.{flat_map, slice_range}
use Rattle.std.proofs.Math.ListN.{set}
use Rattle.std.proofs.lemmas.Bool.{lt-ltb, le-ltb, cases_lt, cases_eq, eq-eqb, ne_eqb}
use Rattle.std.proofs.lemmas.List.{get_or-set_same, get_or-set_other, get_or_append_left, get_or-append_right, get_or-take, get_or-drop, get_or_default, get_or_past}
use Rattle.std.proofs.lemmas.Nat.{mul-add-lt, same_from_place}
use Rattle.share_types.specs.Bits.{once, number}
use Rattle.share_types.specs.Sums.{each}
use Rattle.share_types.specs.Keys.{◌⊕◌, key_at, key_of, times, bit}
use Rattle.share_types.specs.declared.keys.Key.{Key}
use Rattle.share_types.specs.declared.records.KeyBit.{KeyBit}
use Rattle.share_types.proofs.Parties.{length-each}
use Rattle.bmr_keys.specs.Mask.{own_times}
use Rattle.bmr_keys.proofs.Labels.{number-each_more, xor_zero_r}

abbrev pub no_key : Key
no_key = record { 0 = 0 }

-- the place of a bit and an owner is in the list
pub place-inside : (n w i j : ℕ) → i < w → j < n → i * n + j < w * n
place-inside n w i j p q = let inside = mul-add-lt i n j w p q in omega arith

pub key_at-set_same : (keys : List Key) (k : ℕ) (key : Key) → k < length keys → key_at (set keys k key) k ≡ key.0
key_at-set_same keys k key h = ap (λ (x : Key). x.0) (get_or-set_same keys k key no_key h)

pub key_at-set_other : (keys : List Key) (k p : ℕ) (key : Key) → p ≢ k → key_at (set keys k key) p ≡ key_at keys p
key_at-set_other keys k p key h = ap (λ (x : Key). x.0) (get_or-set_other keys k p key no_key h)

pub key_at-past : (keys : List Key) (k : ℕ) → length keys ≤ k → key_at keys k ≡ 0
key_at-past keys k h = ap (λ (x : Key). x.0) (get_or_past keys k no_key h)

pub before_more : {X : Type 0} (i k : ℕ) (x y : X) → i < k → (if nat_lt i (k + 1) then x else y) ≡ (if nat_lt i k then x else y)
before_more i k x y h = rw (lt-ltb i k h, lt-ltb i (k + 1) (omega arith)) refl

-- the owner's offset is added at one more bit
module _ (n w me offset c : ℕ) (start : List Key) where
  abbrev pub own : ℕ → ℕ → ℕ
  own i j = own_times me offset c i j

  abbrev pub Added : ℕ → List Key → Type 0
  Added k keys = (i j : ℕ) → i < w → j < n → key_of n keys i j ≡ key_of n start i j ⊕ (if nat_lt i k then own i j else 0)

  own-other : (i j : ℕ) → j ≢ me → own i j ≡ 0
  own-other i j h = rw (ne_eqb j me h) refl

  not_yet : (i j k : ℕ) → k ≤ i → key_of n start i j ⊕ (if nat_lt i k then own i j else 0) ≡ key_of n start i j
  not_yet i j k h = rw (le-ltb i k h) (xor_zero_r (key_of n start i j))

  done : (i j k : ℕ) → i < k → key_of n start i j ⊕ (if nat_lt i k then own i j else 0) ≡ key_of n start i j ⊕ own i j
  done i j k h = rw (lt-ltb i k h) refl

  pub added : (k : ℕ) (keys : List Key) (key : Key) → k < w → me < n → length keys ≡ w * n → Added k keys →
      key.0 ≡ key_of n keys k me ⊕ own k me → Added (k + 1) (set keys (k * n + me) key)
  added k keys key less mine count kept told i j p q = elim (cases_eq i k) as
      (λ _. key_of n (set keys (k * n + me) key) i j ≡ key_of n start i j ⊕ (if nat_lt i (k + 1) then own i j else 0)) [
        | inr apart ↦
            (let other : i * n + j ≢ k * n + me = λ e. apart (same_from_place i j k me n q mine e).0 in
            key_at-set_other keys (k * n + me) (i * n + j) key other ∙ (kept i j p q
            ∙ ap (λ m. key_of n start i j ⊕ m) (same i apart)))
        | inl here ↦ elim (cases_eq j me) as (λ _. key_of n (set keys (k * n + me) key) i j ≡ key_of n start i j ⊕ (if nat_lt i (k + 1) then own i j else 0)) [
          | inr apart ↦
              (let other : i * n + j ≢ k * n + me = λ e. apart (same_from_place i j k me n q mine e).1 in
              key_at-set_other keys (k * n + me) (i * n + j) key other ∙ (kept i j p q
              ∙ (not_yet i j k (omega arith) ∙ sym (done i j (k + 1) (omega arith) ∙ ap (λ m. key_of n start i j ⊕ m) (own-other i j apart) ∙ xor_zero_r (key_of n start i j)))))
          | inl mine_too ↦
              (let place : i * n + j ≡ k * n + me = ap₂ (λ (a b : ℕ). a * n + b) here mine_too in
              let inside : k * n + me < length keys = let h = place-inside n w k me less mine in omega arith in
              ap (key_at (set keys (k * n + me) key)) place ∙ (key_at-set_same keys (k * n + me) key inside ∙ (told
              ∙ (ap₂ (λ (a b : ℕ). key_of n keys a b ⊕ own a b) (sym here) (sym mine_too)
              ∙ (ap (λ m. m ⊕ own i j) (kept i j p q ∙ not_yet i j k (omega arith)) ∙ sym (done i j (k + 1) (omega arith)))))))
        ]
      ]
    where
      same : (i : ℕ) → (i ≡ k → ⊥) → (if nat_lt i k then own i j else 0) ≡ (if nat_lt i (k + 1) then own i j else 0)
      same i apart = elim (cases_lt i k) as (λ _. (if nat_lt i k then own i j else 0) ≡ (if nat_lt i (k + 1) then own i j else 0)) [
        | inl small ↦ sym (before_more i k (own i j) 0 small)
        | inr large ↦ rw (le-ltb i k large, le-ltb i (k + 1) (omega arith)) refl
      ]

  own-own : (k : ℕ) → times (bit c k) offset ≡ own k me
  own-own k = rw (eq-eqb me me refl) refl

  pub added-at : (k place : ℕ) (keys : List Key) (key : Key) → k < w → me < n → length keys ≡ w * n → Added k keys →
      place ≡ k * n + me → key.0 ≡ key_at keys place ⊕ times (bit c k) offset → Added (k + 1) (set keys place key)
  added-at k place keys key less mine count kept e told =
      let P : ℕ → Type 0 = λ p. key.0 ≡ key_at keys p ⊕ times (bit c k) offset → Added (k + 1) (set keys p key) in
      subst P (sym e)
      (λ told_there. added k keys key less mine count kept (told_there ∙ ap (λ m. key_of n keys k me ⊕ m) (own-own k)))
      told

  pub all_added : (keys : List Key) (k : ℕ) → w ≤ k → Added k keys → (i j : ℕ) → i < w → j < n → key_of n keys i j ≡ key_of n start i j ⊕ own i j
  all_added keys k h kept i j p q = kept i j p q ∙ done i j k (omega arith)

-- ## What a function gives for each place
pub get-each : {X : Type 0} (n : ℕ) (f : ℕ → X) (i : ℕ) (d : X) → i < n → get_or (each n f) i d ≡ f i
get-each zero f i d h = absurd (omega arith)
get-each (suc n) f i d h = elim (cases_lt i n) as (λ _. get_or (each (suc n) f) i d ≡ f i) [
  | inl small ↦
      (let count = length-each n f in
      get_or_append_left (each n f) (f n ∷ []) d i (omega arith) ∙ get-each n f i d small)
  | inr large ↦
      (let last : i ≡ n = omega arith in
      let none : i - n ≡ 0 = omega arith in
      get_or-append_right (each n f) (f n ∷ []) n i d (length-each n f) large
      ∙ (ap (λ k. get_or (f n ∷ []) k d) none ∙ ap f (sym last)))
]

pub key_at-each : (n : ℕ) (f : ℕ → ℕ) (keys : List Key) (i : ℕ) → keys ≡ each n (λ k. record { 0 = f k }) → i < n → key_at keys i ≡ f i
key_at-each n f keys i e h =
    ap (λ (xs : List Key). key_at xs i) e ∙ ap (λ (x : Key). x.0) (get-each n (λ k. record { 0 = f k }) i no_key h)

-- ## Bits of records
abbrev pub no_record : KeyBit
no_record = record { bit = false; times = [] }

pub bits_more : (part : List KeyBit) (i word : ℕ) (d : KeyBit) → i < length part →
    word ≡ number (each i (λ k. (get_or part k no_record).bit)) →
    word + 2 ^ i * once (get_or part i d).bit ≡ number (each (i + 1) (λ k. (get_or part k no_record).bit))
bits_more part i word d inside kept =
    let f = λ (k : ℕ). (get_or part k no_record).bit in
    let same : (get_or part i d).bit ≡ f i = ap (λ (x : KeyBit). x.bit) (get_or_default part i d no_record inside) in
    ap₂ (λ (a : ℕ) (b : Bool). a + 2 ^ i * once b) kept same
    ∙ (sym (number-each_more i f) ∙ ap (λ k. number (each k f)) (sym (add-one i)))

-- ## Lists that are put behind one another
pub key_at-low : (xs ys : List Key) (k : ℕ) → k < length xs → key_at (xs ++ ys) k ≡ key_at xs k
key_at-low xs ys k h = ap (λ (x : Key). x.0) (get_or_append_left xs ys no_key k h)

pub key_at-high : (xs ys : List Key) (n k : ℕ) → length xs ≡ n → n ≤ k → key_at (xs ++ ys) k ≡ key_at ys (k - n)
key_at-high xs ys n k e h = ap (λ (x : Key). x.0) (get_or-append_right xs ys n k no_key e h)

pub key_at-range : (xs : List Key) (from to k : ℕ) → k < to - from → key_at (slice_range xs from to) k ≡ key_at xs (from + k)
key_at-range xs from to k h =
    ap (λ (x : Key). x.0) (get_or-take (to - from) (drop from xs) k no_key h ∙ get_or-drop from xs k no_key)

-- the keys of records, each of n owners
pub records-length : (n : ℕ) (ks : List KeyBit) → All (λ key_bit. length key_bit.times ≡ n) ks →
    length (flat_map (λ key_bit. key_bit.times) ks) ≡ length ks * n
records-length n [] all = omega arith
records-length n (k ∷ ks) all =
    let first : length k.times ≡ n = all 0 k (omega arith) in
    let rest = records-length n ks (λ i d h. all (suc i) d (omega arith)) in
    length-append k.times (flat_map (λ key_bit. key_bit.times) ks) ∙ omega arith

pub records-at : (n : ℕ) (ks : List KeyBit) (d : KeyBit) (i j : ℕ) → All (λ key_bit. length key_bit.times ≡ n) ks → i < length ks → j < n →
    key_of n (flat_map (λ key_bit. key_bit.times) ks) i j ≡ key_at (get_or ks i d).times j
records-at n [] d i j all p q = absurd (omega arith)
records-at n (k ∷ ks) d zero j all p q =
    let first : length k.times ≡ n = all 0 k (omega arith) in
    let place : 0 * n + j ≡ j = omega arith in
    ap (key_at (k.times ++ flat_map (λ key_bit. key_bit.times) ks)) place
    ∙ key_at-low k.times (flat_map (λ key_bit. key_bit.times) ks) j (omega arith)
records-at n (k ∷ ks) d (suc i) j all p q =
    let first : length k.times ≡ n = all 0 k (omega arith) in
    let place : suc i * n + j - n ≡ i * n + j = omega arith in
    key_at-high k.times (flat_map (λ key_bit. key_bit.times) ks) n (suc i * n + j) first (omega arith)
    ∙ (ap (key_at (flat_map (λ key_bit. key_bit.times) ks)) place
    ∙ records-at n ks d i j (λ m e h. all (suc m) e (omega arith)) (omega arith) q)
