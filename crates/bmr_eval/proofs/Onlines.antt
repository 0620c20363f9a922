-- Online values in memory that stand for what all parties see, after each call.
use Rattle.std.proofs.Common.{◌≡◌, ℕ, zero, suc, ◌+◌, ◌-◌, ◌*◌, ◌/◌, ◌%◌, ◌^◌, ◌<◌, ◌≤◌, List, ◌++◌, ◌∷◌, [], length, refl, sym, ap, ap₂, ◌∙◌, arith, inl, inr, length-append}
use Rattle.std.specs.List.{slice_range}
use Rattle.std.proofs.lemmas.Bool.{cases_lt}
use Rattle.std.proofs.lemmas.Nat.{div-mul-add, mod-mul-add}
use Rattle.std.proofs.Math.Nat.{mod-eq_of_lt, mul-le-mul_left}
use Rattle.share_types.specs.Bits.{number}
use Rattle.share_types.specs.Sums.{each, xor_to}
use Rattle.share_types.specs.Keys.{◌⊕◌, bit, times, key_at, key_of}
use Rattle.share_types.specs.declared.keys.Key.{Key}
use Rattle.share_types.specs.declared.keys.Online.{Online}
use Rattle.share_types.proofs.Parties.{length-each, xor_to_same}
use Rattle.bmr_keys.specs.Hiding.{hiding_key}
use Rattle.bmr_keys.specs.Mask.{Mask, IsPart, behind}
use Rattle.bmr_keys.specs.declared.part.MaskPart.{MaskPart}
use Rattle.bmr_keys.specs.Wires.{Active, IsOnline}
use Rattle.bmr_keys.proofs.Labels.{cut-inside}
use Rattle.bmr_keys.proofs.KeyLists.{place-inside, key_at-each}
use Rattle.bmr_keys.proofs.Masks.{behind-inside, behind-outside}
use Rattle.bmr_keys.proofs.Parts.{row-count, range-length, range-at, joined-low, joined-high}
use Rattle.bmr_garble.specs.declared.table.Table.{Table}
use Rattle.bmr_garble.specs.Table.{Entries, IsTable}
use Rattle.bmr_eval.specs.Active.{own_active, AreKeys, slice_active, join_active, row_of, row_at, result_key, and_active, owners_of, online_seen, entries_in}
use Rattle.bmr_eval.proofs.Evaluating.{row-below}

pub owners-are : (n w : ℕ) (a : Active) (online : Online) → IsOnline n w a online → 1 ≤ w → owners_of online ≡ n
owners-are n w a online p some = row-count (length online.keys) online.masked.width n w p.key_count p.width some

pub entered : (n w k offset masked : ℕ) (u : Mask) (part : MaskPart) (list : List Key) → IsPart n w u part → k ≡ w →
    list ≡ each k (λ i. record { 0 = key_at part.keys i ⊕ times (bit masked i) offset }) →
    AreKeys w (own_active u offset masked) list
entered n w k offset masked u part list p same made =
    let listed : list ≡ each w (λ i. record { 0 = key_at part.keys i ⊕ times (bit masked i) offset }) =
    made ∙ ap (λ m. each {X = Key} m (λ i. record { 0 = key_at part.keys i ⊕ times (bit masked i) offset })) same in record {
      count = ap length listed ∙ length-each w (λ i. let key : Key = record { 0 = key_at part.keys i ⊕ times (bit masked i) offset } in key);
      each = λ i less.
          key_at-each w (λ i. key_at part.keys i ⊕ times (bit masked i) offset) list i listed less
          ∙ ap (λ key. key ⊕ times (bit masked i) offset) (p.keys i less);
    }

pub sliced : (n w at width owners : ℕ) (a : Active) (online made : Online) → IsOnline n w a online → at + width ≤ w → owners ≡ n →
    made.masked.width ≡ width → made.masked.word ≡ online.masked.word / 2 ^ at % 2 ^ width →
    made.keys ≡ slice_range online.keys (at * owners) ((at + width) * owners) →
    IsOnline n width (slice_active at width a) made
sliced n w at width owners a online made p inside same wide word listed =
    let keys : made.keys ≡ slice_range online.keys (at * n) ((at + width) * n) =
    listed ∙ ap (λ k. slice_range online.keys (at * k) ((at + width) * k)) same in
    let rows : n * (at + width) ≤ n * w = mul-le-mul_left n inside in
    let count = p.key_count in record {
      width = wide;
      masked = word ∙ ap (λ m. m / 2 ^ at % 2 ^ width) p.masked;
      key_count = ap length keys ∙ (range-length online.keys (at * n) ((at + width) * n) (omega arith) (omega arith) ∙ omega arith);
      keys = λ i j less small.
          ap (λ ks. key_of n ks i j) keys ∙ (range-at online.keys n at width i j less small
          ∙ (p.keys (at + i) j (omega arith) small ∙ sym (cut-inside width (λ k. a.keys (at + k) j) i less)));
    }

pub joined : (n w k : ℕ) (a b : Active) (low high made : Online) → IsOnline n w a low → IsOnline n k b high →
    made.masked.width ≡ w + k → made.masked.word ≡ low.masked.word + 2 ^ w * high.masked.word → low.masked.word < 2 ^ w →
    made.keys ≡ low.keys ++ high.keys → IsOnline n (w + k) (join_active w a b) made
joined n w k a b low high made p q wide word small keys = record {
  width = wide;
  masked = word ∙ (ap (λ m. m + 2 ^ w * high.masked.word) (sym (mod-eq_of_lt small))
      ∙ ap₂ (λ (x y : ℕ). x % 2 ^ w + 2 ^ w * y) p.masked q.masked);
  key_count =
      ap length keys ∙ (length-append low.keys high.keys
      ∙ (ap₂ (λ (x y : ℕ). x + y) p.key_count q.key_count ∙ omega arith));
  keys = λ i j less inside. ap (λ ks. key_of n ks i j) keys ∙ key_behind i j less inside;
}
  where
    key_behind : (i j : ℕ) → i < w + k → j < n → key_of n (low.keys ++ high.keys) i j ≡ behind w (λ m. a.keys m j) (λ m. b.keys m j) i
    key_behind i j less inside = elim (cases_lt i w) as (λ _. key_of n (low.keys ++ high.keys) i j ≡ behind w (λ m. a.keys m j) (λ m. b.keys m j) i) [
      | inl before ↦
          joined-low low.keys high.keys n w i j p.key_count before inside
          ∙ (p.keys i j before inside ∙ sym (behind-inside w (λ m. a.keys m j) (λ m. b.keys m j) i before))
      | inr after ↦
          joined-high low.keys high.keys n w i j p.key_count after inside
          ∙ (q.keys (i - w) j (omega arith) inside ∙ sym (behind-outside w (λ m. a.keys m j) (λ m. b.keys m j) i after))
    ]

-- ## Evaluation
each_same : {X : Type 0} (n : ℕ) (f g : ℕ → X) → ((i : ℕ) → i < n → f i ≡ g i) → each n f ≡ each n g
each_same zero f g same = refl
each_same (suc n) f g same =
    ap₂ (λ xs x. xs ++ x ∷ []) (each_same n f g (λ i h. same i (omega arith))) (same n (omega arith))

module _ (n w gate : ℕ) (entries : Entries) (a b : Active) (t : Table) (u v made : Online)
    (table : IsTable n w entries t) (left : IsOnline n w a u) (right : IsOnline n w b v) where
  served : (i j : ℕ) → i < w → j < n →
      result_key n (entries_in n t) gate (online_seen n u) (online_seen n v) i j ≡ result_key n entries gate a b i j
  served i j p q =
      let r = row_of (bit u.masked.word i) (bit v.masked.word i) in
      let same : r ≡ row_at a b i = ap₂ (λ (x y : ℕ). row_of (bit x i) (bit y i)) left.masked right.masked in
      ap₂ (λ (x y : ℕ). x ⊕ y) (table.rows i r j p (row-below (bit u.masked.word i) (bit v.masked.word i)) q)
      (xor_to_same n (λ o. hiding_key (key_of n u.keys i o) (key_of n v.keys i o) gate i r j) (λ o. hiding_key (a.keys i o) (b.keys i o) gate i r j)
      (λ o small. ap₂ (λ (x y : ℕ). hiding_key x y gate i r j) (left.keys i o p small) (right.keys i o p small)))
      ∙ ap (λ k. entries i k j ⊕ xor_to n (λ o. hiding_key (a.keys i o) (b.keys i o) gate i k j)) same

  abbrev listed : ℕ → ℕ
  listed k = result_key n (entries_in n t) gate (online_seen n u) (online_seen n v) (k / n) (k % n)

  pub evaluated : 1 ≤ n → made.masked.width ≡ w → made.keys ≡ each (w * n) (λ k. record { 0 = listed k }) →
      made.masked.word ≡ number (each w (λ i. bit (key_at made.keys (i * n)) 0)) →
      IsOnline n w (and_active n w entries gate a b) made
  evaluated some wide keys word = record {
    width = wide;
    masked = word ∙ ap number (each_same w (λ i. bit (key_at made.keys (i * n)) 0) (λ i. bit (result_key n entries gate a b i 0) 0)
        (λ i less. let place : i * n ≡ i * n + 0 = omega arith in ap (λ k. bit (key_at made.keys k) 0) place ∙ ap (λ k. bit k 0) (at_place i 0 less some)));
    key_count = ap length keys ∙ length-each (w * n) (λ k. let key : Key = record { 0 = listed k } in key);
    keys = λ i j less small. at_place i j less small ∙ sym (cut-inside w (λ k. result_key n entries gate a b k j) i less);
  }
    where
      at_place : (i j : ℕ) → i < w → j < n → key_of n made.keys i j ≡ result_key n entries gate a b i j
      at_place i j less small =
          key_at-each (w * n) listed made.keys (i * n + j) keys (place-inside n w i j less small)
          ∙ (ap₂ (λ (x y : ℕ). result_key n (entries_in n t) gate (online_seen n u) (online_seen n v) x y) (div-mul-add i n j small) (mod-mul-add i n j small)
          ∙ served i j less small)

-- keys that are given place by place are an online value
pub given : (n w : ℕ) (keys : ℕ → ℕ → ℕ) (masked : ℕ) (made : Online) → made.masked.width ≡ w → made.masked.word ≡ masked →
    made.keys ≡ each (w * n) (λ k. record { 0 = keys (k / n) (k % n) }) → IsOnline n w (record { masked = masked; keys = keys }) made
given n w keys masked made wide word listed = record {
  width = wide;
  masked = word;
  key_count = ap length listed ∙ length-each (w * n) (λ k. let key : Key = record { 0 = keys (k / n) (k % n) } in key);
  keys = λ i j less small.
      key_at-each (w * n) (λ k. keys (k / n) (k % n)) made.keys (i * n + j) listed (place-inside n w i j less small)
      ∙ ap₂ keys (div-mul-add i n j small) (mod-mul-add i n j small);
}
