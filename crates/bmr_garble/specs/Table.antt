-- Garbled tables: their entries by bit, row and owner, and one party's share of an entry. Row 2s + t serves the
-- masked bits s of the left and t of the right input.
use Rattle.std.specs.Prelude.{◌≡◌, ℕ, ◌+◌, ◌*◌, ◌<◌, ◌==◌, ◌&&◌, if◌then◌else◌, List, length}
use Rattle.share_types.specs.Bits.{differ}
use Rattle.share_types.specs.Sums.{xor_to}
use Rattle.share_types.specs.Keys.{◌⊕◌, bit, times, key_at}
use Rattle.bmr_keys.specs.Hiding.{hiding_key}
use Rattle.bmr_keys.specs.Payload.{key_in}
use Rattle.share_types.specs.declared.keys.Key.{Key}
use Rattle.bmr_keys.specs.Mask.{Mask}
use Rattle.bmr_keys.specs.declared.part.MaskPart.{MaskPart}
use Rattle.bmr_garble.specs.declared.table.Table.{Table}

-- the entries of a table by bit, row and owner
abbrev pub Entries : Type 0
Entries = ℕ → ℕ → ℕ → ℕ

-- the place of an entry in the list of a table's keys, with n owners
abbrev pub entry_place : ℕ → ℕ → ℕ → ℕ → ℕ
entry_place n i r j = (4 * i + r) * n + j

-- the entries of a table in a payload of its keys
abbrev pub payload_entry : ℕ → List ℕ → Entries
payload_entry n payload i r j = key_in payload (entry_place n i r j)

-- the table in memory has a width, n owners and these entries
pub record IsTable (n w : ℕ) (entries : Entries) (table : Table) : Type 0 where
  pub width : table.width ≡ w
  pub parties : table.parties ≡ n
  pub count : length table.rows ≡ 4 * w * n
  pub rows : (i r j : ℕ) → i < w → r < 4 → j < n → key_at table.rows (entry_place n i r j) ≡ entries i r j

-- what a party adds of its own to the entry of an owner: where it is the owner, its zero key of the result, and its
-- offset in the row of two ones
abbrev pub own_part : ℕ → ℕ → Mask → ℕ → ℕ → ℕ → ℕ
own_part me offset w i r j = if j == me then w.keys i ⊕ times (bit r 1 && bit r 0) offset else 0

-- a party's share of an entry: what hides it of the party's own keys, the share of the product of the masks times the
-- owner's offset, those of the masks that the row's bits choose, that of the result's mask, and the own part
abbrev pub share_entry : ℕ → ℕ → ℕ → Mask → Mask → Mask → (ℕ → ℕ → ℕ) → Entries
share_entry me offset gate u v w product i r j =
    hiding_key (u.keys i ⊕ times (bit r 1) offset) (v.keys i ⊕ times (bit r 0) offset) gate i r j
    ⊕ product i j
    ⊕ times (bit r 0) (u.shares i j)
    ⊕ times (bit r 1) (v.shares i j)
    ⊕ w.shares i j
    ⊕ own_part me offset w i r j

-- parts in memory of the masks of both inputs and of the result, and shares of the product, have w bits and n owners
pub record HaveShape (n w : ℕ) (u v result : MaskPart) (product : List Key) : Type 0 where
  pub width : u.mask.width ≡ w
  pub left_keys : length u.keys ≡ w
  pub left_shares : length u.times ≡ w * n
  pub right_keys : length v.keys ≡ w
  pub right_shares : length v.times ≡ w * n
  pub result_keys : length result.keys ≡ w
  pub result_shares : length result.times ≡ w * n
  pub products : length product ≡ w * n

-- the entry of a garbled table with masks x and y of the inputs and z of the result: hidden by all parties' keys, the
-- owner's zero key of the result, with its offset where the masked result is 1
abbrev pub garbled_entry : ℕ → (ℕ → ℕ) → ℕ → (ℕ → Mask) → (ℕ → Mask) → (ℕ → Mask) → ℕ → ℕ → ℕ → Entries
garbled_entry n offset gate u v w x y z i r j =
    xor_to n (λ q. hiding_key ((u q).keys i ⊕ times (bit r 1) (offset q)) ((v q).keys i ⊕ times (bit r 0) (offset q)) gate i r j)
    ⊕ (w j).keys i
    ⊕ times (differ (differ (bit x i) (bit r 1) && differ (bit y i) (bit r 0)) (bit z i)) (offset j)

-- the entries of the bits before a width are those of the garbled table
abbrev pub IsGarbled : ℕ → ℕ → (ℕ → ℕ) → ℕ → (ℕ → Mask) → (ℕ → Mask) → (ℕ → Mask) → ℕ → ℕ → ℕ → Entries → Type 0
IsGarbled n width offset gate u v w x y z entries =
    (i r j : ℕ) → i < width → r < 4 → j < n → entries i r j ≡ garbled_entry n offset gate u v w x y z i r j
