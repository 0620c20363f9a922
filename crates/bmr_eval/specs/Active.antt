-- What each call makes of what all parties see of wires: masked bits and active keys.
use Rattle.std.specs.Prelude.{◌≡◌, ℕ, ◌+◌, ◌-◌, ◌*◌, ◌<◌, ◌/◌, ◌==◌, nat_lt, if◌then◌else◌, Bool, List, [], get_or, length}
use Rattle.share_types.specs.Bits.{once, number}
use Rattle.share_types.specs.Sums.{xor_to, each}
use Rattle.share_types.specs.Keys.{◌⊕◌, bit, times, key_at, key_of}
use Rattle.share_types.specs.declared.keys.Key.{Key}
use Rattle.share_types.specs.declared.keys.Online.{Online}
use Rattle.bmr_keys.specs.Hiding.{hiding_key}
use Rattle.bmr_keys.specs.Payload.{key_in}
use Rattle.bmr_keys.specs.Mask.{Mask, cut, behind, slice, join}
use Rattle.bmr_keys.specs.Wires.{Active}
use Rattle.bmr_garble.specs.declared.table.Table.{Table}
use Rattle.bmr_garble.specs.Table.{Entries, entry_place}

-- a party's active key of a bit: its zero key, XOR its offset where the masked bit is 1
abbrev pub own_active : Mask → ℕ → ℕ → ℕ → ℕ
own_active u offset masked i = u.keys i ⊕ times (bit masked i) offset

-- the keys in memory are these, one for each bit
pub record AreKeys (w : ℕ) (keys : ℕ → ℕ) (list : List Key) : Type 0 where
  pub count : length list ≡ w
  pub each : (i : ℕ) → i < w → key_at list i ≡ keys i

-- where the payload of a party stands among those of all parties but one, in their order
abbrev pub heard_place : ℕ → ℕ → ℕ
heard_place me j = if nat_lt j me then j else j - 1

-- the active key of a bit and an owner: an own one, or one from the owner's payload
abbrev pub told_key : ℕ → List Key → List (List ℕ) → ℕ → ℕ → ℕ
told_key me own payloads i j = if j == me then key_at own i else key_in (get_or payloads (heard_place me j) []) i

-- what is seen of the wire of a public vector
abbrev pub zero_active : Active
zero_active = record { masked = 0; keys = λ i j. 0 }

abbrev pub xor_active : Active → Active → Active
xor_active a b = record { masked = a.masked ⊕ b.masked; keys = λ i j. a.keys i j ⊕ b.keys i j }

abbrev pub slice_active : ℕ → ℕ → Active → Active
slice_active at width a = record {
  masked = slice at width a.masked;
  keys = λ i j. cut width (λ k. a.keys (at + k) j) i;
}

-- the first bits of one wire, and behind them another
abbrev pub join_active : ℕ → Active → Active → Active
join_active width a b = record {
  masked = join width a.masked b.masked;
  keys = λ i j. behind width (λ k. a.keys k j) (λ k. b.keys k j) i;
}

-- the row of a table that serves two masked bits
abbrev pub row_of : Bool → Bool → ℕ
row_of s t = 2 * once s + once t

-- the row that serves the masked bits of both inputs
abbrev pub row_at : Active → Active → ℕ → ℕ
row_at a b i = row_of (bit a.masked i) (bit b.masked i)

-- an owner's active key of the result: the entry of the row of the masked bits, without what hides it
abbrev pub result_key : ℕ → Entries → ℕ → Active → Active → ℕ → ℕ → ℕ
result_key n entries gate a b i j =
    entries i (row_at a b i) j ⊕ xor_to n (λ q. hiding_key (a.keys i q) (b.keys i q) gate i (row_at a b i) j)

-- the result of a garbled AND: each masked bit is the least bit of owner 0's active key
abbrev pub and_active : ℕ → ℕ → Entries → ℕ → Active → Active → Active
and_active n width entries gate a b = record {
  masked = number (each width (λ i. bit (result_key n entries gate a b i 0) 0));
  keys = λ i j. cut width (λ k. result_key n entries gate a b k j) i;
}

-- how many owners an online value in memory has keys for
abbrev pub owners_of : Online → ℕ
owners_of online = length online.keys / online.masked.width

-- an online value and a table in memory, with n owners
abbrev pub online_seen : ℕ → Online → Active
online_seen n online = record { masked = online.masked.word; keys = key_of n online.keys }

abbrev pub entries_in : ℕ → Table → Entries
entries_in n table i r j = key_at table.rows (entry_place n i r j)

-- a table and both online values in memory have one width and the same owners
pub record HaveShape (t : Table) (u v : Online) : Type 0 where
  pub left_width : u.masked.width ≡ t.width
  pub right_width : v.masked.width ≡ t.width
  pub left : length u.keys ≡ t.width * t.parties
  pub right : length v.keys ≡ t.width * t.parties
  pub rows : length t.rows ≡ 4 * t.width * t.parties
