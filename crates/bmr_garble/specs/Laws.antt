-- What the parties' shares of products and of garbled tables recombine to, for any number of parties.
use Rattle.std.specs.Prelude.{◌≡◌, ℕ, ◌<◌, ◌^◌, bit_and}
use Rattle.share_types.specs.Bits.{number}
use Rattle.share_types.specs.Sums.{xor_to, each}
use Rattle.share_types.specs.Keys.{◌⊕◌, key_at}
use Rattle.share_types.specs.declared.records.BitTriple.{BitTriple}
use Rattle.share_types.specs.declared.records.KeyBit.{KeyBit}
use Rattle.bmr_keys.specs.Mask.{Mask}
use Rattle.bmr_keys.specs.Wires.{AreTimes, AreKeyBits}
use Rattle.bmr_garble.specs.Product.{opened_left, opened_right, product_share, AreBitTriples, product_times}
use Rattle.bmr_keys.specs.Payload.{key_bytes}
use Rattle.bmr_garble.specs.Table.{Entries, IsTable, share_entry, garbled_entry, payload_entry}
use Rattle.bmr_garble.specs.declared.table.Table.{Table}

-- with bit triples, and d and e what all parties opened of masks u and v, the parties' shares of the product XOR to
-- the AND of the masks
abbrev pub ProductRecombines : Type 0
ProductRecombines =
    (n : ℕ) (u v : ℕ → ℕ) (t : ℕ → BitTriple) (d e : ℕ) → 0 < n → AreBitTriples n t →
    d ≡ xor_to n (λ p. opened_left (u p) (t p)) → e ≡ xor_to n (λ p. opened_right (v p) (t p)) →
    xor_to n (λ p. product_share p (t p) d e) ≡ bit_and (xor_to n u) (xor_to n v)

-- with honest key records, and f what all parties opened of their shares of a product and the records' bits, the
-- parties' shares XOR to the product times each offset
abbrev pub ProductTimesRecombine : Type 0
ProductTimesRecombine =
    (n width : ℕ) (offset : ℕ → ℕ) (stock : ℕ → ℕ → KeyBit) (product : ℕ → ℕ) (x f : ℕ) → 0 < n →
    AreKeyBits n width offset stock → xor_to n product ≡ x →
    f ≡ xor_to n (λ p. product p ⊕ number (each width (λ i. (stock p i).bit))) →
    AreTimes n offset (λ p. product_times width p (offset p) (stock p) f) x

-- where the parties' shares of the three masks XOR to their bits times each offset, and those of the product to the
-- AND of the inputs' masks times each offset, the parties' shares of a table XOR to the garbled table
abbrev pub SharesJoin : Type 0
SharesJoin =
    (n : ℕ) (offset : ℕ → ℕ) (gate : ℕ) (u v w : ℕ → Mask) (product : ℕ → ℕ → ℕ → ℕ) (x y z : ℕ) →
    AreTimes n offset (λ p. (u p).shares) x → AreTimes n offset (λ p. (v p).shares) y →
    AreTimes n offset (λ p. (w p).shares) z → AreTimes n offset product (bit_and x y) →
    (i r j : ℕ) → j < n →
    xor_to n (λ p. share_entry p (offset p) gate (u p) (v p) (w p) (product p) i r j)
    ≡ garbled_entry n offset gate u v w x y z i r j

-- the payload of a table tells its entries
abbrev pub PayloadTells : Type 0
PayloadTells =
    (n w : ℕ) (entries : Entries) (table : Table) → IsTable n w entries table → ((k : ℕ) → key_at table.rows k < 2 ^ 128) →
    (i r j : ℕ) → i < w → r < 4 → j < n → payload_entry n (key_bytes table.rows) i r j ≡ entries i r j
