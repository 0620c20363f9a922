-- Tables in memory.
use Rattle.std.proofs.Common.{◌≡◌, ℕ, ◌+◌, ◌*◌, ◌/◌, ◌%◌, ◌<◌, ◌&&◌, List, if◌then◌else◌, length, ap, ap₂, ◌∙◌, arith}
use Rattle.std.specs.Prelude.{◌==◌}
use Rattle.std.proofs.lemmas.Nat.{mul-add-lt, div-mul-add, mod-mul-add}
use Rattle.share_types.specs.Sums.{each}
use Rattle.share_types.specs.Keys.{◌⊕◌, bit, times, key_at, key_of}
use Rattle.share_types.specs.declared.keys.Key.{Key}
use Rattle.share_types.proofs.Parties.{length-each}
use Rattle.bmr_keys.specs.Hiding.{hiding_key}
use Rattle.bmr_keys.specs.Mask.{Mask, IsPart, seen}
use Rattle.bmr_keys.specs.declared.part.MaskPart.{MaskPart}
use Rattle.bmr_keys.proofs.KeyLists.{key_at-each}
use Rattle.bmr_garble.specs.declared.table.Table.{Table}
use Rattle.bmr_garble.specs.Product.{AreShares}
use Rattle.bmr_keys.specs.Payload.{key_in}
use Rattle.bmr_keys.proofs.Payloads.{keys-back}
use Rattle.bmr_garble.specs.Laws.{PayloadTells}
use Rattle.bmr_garble.specs.Table.{Entries, entry_place, IsTable, share_entry, payload_entry}

-- ## Places of entries
line_below : (w i r : ℕ) → i < w → r < 4 → 4 * i + r < 4 * w
line_below w i r p q = omega arith

pub entry-inside : (n w i r j : ℕ) → i < w → r < 4 → j < n → entry_place n i r j < 4 * w * n
entry-inside n w i r j p q s =
    let inside = mul-add-lt (4 * i + r) n j (4 * w) (line_below w i r p q) s in
    omega arith

pub entry-line : (n i r j : ℕ) → j < n → entry_place n i r j / n ≡ 4 * i + r
entry-line n i r j h = div-mul-add (4 * i + r) n j h

pub entry-owner : (n i r j : ℕ) → j < n → entry_place n i r j % n ≡ j
entry-owner n i r j h = mod-mul-add (4 * i + r) n j h

line-bit : (i r : ℕ) → r < 4 → (4 * i + r) / 4 ≡ i
line-bit i r h = omega arith

line-row : (i r : ℕ) → r < 4 → (4 * i + r) % 4 ≡ r
line-row i r h = omega arith

-- a table whose list is given place by place has the entries of these places
pub listed : (n w : ℕ) (entries : Entries) (table : Table) → table.width ≡ w → table.parties ≡ n →
    table.rows ≡ each (4 * w * n) (λ k. record { 0 = entries (k / n / 4) (k / n % 4) (k % n) }) →
    IsTable n w entries table
listed n w entries table wide parties rows = record {
  width = wide;
  parties = parties;
  count = ap length rows ∙ length-each (4 * w * n) (λ k. let key : Key = record { 0 = entries (k / n / 4) (k / n % 4) (k % n) } in key);
  rows = λ i r j p q s.
      let place = entry_place n i r j in
      let line = entry-line n i r j s in
      key_at-each (4 * w * n) (λ k. entries (k / n / 4) (k / n % 4) (k % n)) table.rows place rows (entry-inside n w i r j p q s)
      ∙ (ap (λ m. entries (m / 4) (m % 4) (place % n)) line
      ∙ (ap₂ (λ (a b : ℕ). entries a b (place % n)) (line-bit i r q) (line-row i r q)
      ∙ ap (entries i r) (entry-owner n i r j s)));
}

-- a table with other words for its entries
pub same_entries : (n w : ℕ) (e f : Entries) (table : Table) → ((i r j : ℕ) → i < w → r < 4 → j < n → e i r j ≡ f i r j) →
    IsTable n w e table → IsTable n w f table
same_entries n w e f table same t = record {
  width = t.width;
  parties = t.parties;
  count = t.count;
  rows = λ i r j p q s. t.rows i r j p q s ∙ same i r j p q s;
}

-- ## Parts in memory serve for the parts that they stand for
own-served : (me offset i r j : ℕ) (a b : ℕ) → a ≡ b →
    (if j == me then a ⊕ times (bit r 1 && bit r 0) offset else 0) ≡ (if j == me then b ⊕ times (bit r 1 && bit r 0) offset else 0)
own-served me offset i r j a b e = ap (λ k. if j == me then k ⊕ times (bit r 1 && bit r 0) offset else 0) e

pub served : (n width me offset gate : ℕ) (u v w : Mask) (product : ℕ → ℕ → ℕ) (pu pv pw : MaskPart) (keys : List Key) →
    IsPart n width u pu → IsPart n width v pv → IsPart n width w pw → AreShares n width product keys →
    (i r j : ℕ) → i < width → r < 4 → j < n →
    share_entry me offset gate (seen n pu) (seen n pv) (seen n pw) (key_of n keys) i r j ≡ share_entry me offset gate u v w product i r j
served n width me offset gate u v w product pu pv pw keys as_u as_v as_w as_product i r j p q s =
    ap₂ (λ (a b : ℕ). a ⊕ b)
    (ap₂ (λ (a b : ℕ). a ⊕ b)
    (ap₂ (λ (a b : ℕ). a ⊕ b)
    (ap₂ (λ (a b : ℕ). a ⊕ b)
    (ap₂ (λ (a b : ℕ). a ⊕ b)
    (ap₂ (λ (a b : ℕ). hiding_key (a ⊕ times (bit r 1) offset) (b ⊕ times (bit r 0) offset) gate i r j) (as_u.keys i p) (as_v.keys i p))
    (as_product.each i j p s))
    (ap (times (bit r 0)) (as_u.shares i j p s)))
    (ap (times (bit r 1)) (as_v.shares i j p s)))
    (as_w.shares i j p s))
    (own-served me offset i r j (key_at pw.keys i) (w.keys i) (as_w.keys i p))

-- ## Payloads
pub read-table : (n w : ℕ) (payload : List ℕ) (table : Table) → table.width ≡ w → table.parties ≡ n →
    length payload ≡ 16 * (4 * w * n) → table.rows ≡ each (length payload / 16) (λ k. record { 0 = key_in payload k }) →
    IsTable n w (payload_entry n payload) table
read-table n w payload table wide parties size rows =
    let count : length payload / 16 ≡ 4 * w * n = omega arith in
    let listed : table.rows ≡ each (4 * w * n) (λ k. record { 0 = key_in payload k }) =
    rows ∙ ap (λ m. each {X = Key} m (λ k. record { 0 = key_in payload k })) count in record {
      width = wide;
      parties = parties;
      count = ap length listed ∙ length-each (4 * w * n) (λ k. let key : Key = record { 0 = key_in payload k } in key);
      rows = λ i r j p q s. key_at-each (4 * w * n) (key_in payload) table.rows (entry_place n i r j) listed (entry-inside n w i r j p q s);
    }

pub payload-tells : PayloadTells
payload-tells n w entries table t small i r j p q s =
    let inside = entry-inside n w i r j p q s in
    let count = t.count in
    keys-back table.rows (entry_place n i r j) small (omega arith) ∙ t.rows i r j p q s
