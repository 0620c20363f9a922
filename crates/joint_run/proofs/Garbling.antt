-- In a joint run with honest parts, what the parties make at a garbled gate is a garbled table.
use Rattle.std.proofs.Common.{ℕ, ◌≡◌, ◌<◌, ◌≤◌, ◌+◌, ◌*◌, ◌/◌, ◌%◌, ◌^◌, ◌&&◌, Bool, true, false, cond, List, [], ◌∷◌, length, Some, refl, sym, ◌∙◌, ap, ap₂, subst, arith}
use Rattle.std.specs.Prelude.{slice_get, get_or, ◌==◌, bit_and}
use Rattle.std.proofs.Math.Nat.{mod-lt}
use Rattle.std.proofs.lemmas.Nat.{xor_lt, pow_pos}
use Rattle.std.proofs.lemmas.Bool.{eqb-true, eqb-false}
use Rattle.share_types.specs.declared.needs.Needs.{Needs}
use Rattle.share_types.specs.Sums.{xor_to}
use Rattle.share_types.specs.Keys.{◌⊕◌, bit, times, key_at}
use Rattle.share_types.proofs.Parties.{xor_to_same}
use Rattle.boolean_gmw.specs.Shares.{closed_share}
use Rattle.boolean_gmw.proofs.Xors.{opened_xor}
use Rattle.boolean_gmw.proofs.Recombining.{and-recombines}
use Rattle.bmr_keys.specs.Mask.{Mask, cut}
use Rattle.bmr_keys.specs.Wires.{whole, AreTimes, AreKeyBits}
use Rattle.bmr_keys.specs.Payload.{key_bytes, key_in}
use Rattle.bmr_garble.specs.Product.{product_times}
use Rattle.bmr_garble.specs.Table.{Entries, entry_place, own_part, garbled_entry, IsGarbled}
use Rattle.bmr_garble.proofs.Joining.{shares-join}
use Rattle.bmr_garble.proofs.Products.{product_times-recombine}
use Rattle.bmr_garble.proofs.Tables.{entry-inside, entry-line, entry-owner}
use Rattle.plan_gates.specs.Gate.{Gate, width_at, Garble}
use Rattle.plan_gates.specs.Plan.{Gates, IsPlan, IsGate}
use Rattle.plan_gates.specs.Needs.{needs_at, needs_there}
use Rattle.joint_run.specs.Party as party
use Rattle.joint_run.specs.Party.{Own, Value, Hand, Rounds, opened_vector, entries_in, keys_of, hand_at, wires_before, gate_value, gate_sends, before, silence}
use Rattle.joint_run.specs.Payload.{vectors_bytes, vector_in}
use Rattle.joint_run.specs.Joint.{Payloads, column, IsJoint}
use Rattle.joint_run.specs.Honest.{own_at, AreHonest}
use Rattle.joint_run.proofs.Run.{sent, wide_is}
use Rattle.joint_run.proofs.Sharing.{vector_first, vector_second}
use Rattle.joint_run.proofs.Narrow.{mask_left_small, mask_right_small, covered_small}
use Rattle.joint_run.proofs.Dealing.{bit_triples_multiply, records_match}
use Rattle.joint_run.proofs.Keys.{hiding_low, times_low, key_cut}
use Rattle.joint_run.proofs.KeyValues.{key-there, key-back}
use Rattle.joint_run.proofs.MasksRight.{IsLow, AreParts, operand_fits, operand_small, either_low, cut_low, own_low}
use Rattle.mot_base.proofs.Lists.{inside_of}

-- the bit, the row and the owner of an entry's place
place_is : (n i r j : ℕ) (entries : Entries) → r < 4 → j < n →
    entries (entry_place n i r j / n / 4) (entry_place n i r j / n % 4) (entry_place n i r j % n) ≡ entries i r j
place_is n i r j entries h small =
    let place = entry_place n i r j in
    let line : (4 * i + r) / 4 ≡ i = omega (arith, h) in
    let row : (4 * i + r) % 4 ≡ r = omega (arith, h) in
    ap (λ l. entries (l / 4) (l % 4) (place % n)) (entry-line n i r j small)
    ∙ (ap₂ (λ a b. entries a b (place % n)) line row ∙ ap (entries i r) (entry-owner n i r j small))

module _ (plan : Gates) (owns : List Own) (bases : Needs) (session : ℕ) (table : Payloads)
    (valid : IsPlan plan) (honest : AreHonest plan owns bases session) (joint : IsJoint plan owns table) where
  abbrev n : ℕ
  n = plan.parties

  abbrev own : ℕ → Own
  own p = own_at owns p

  abbrev wires : ℕ → ℕ → List Value
  wires g p = wires_before plan p (own p) (column table p) g

  abbrev at : ℕ → ℕ → Hand
  at g p = hand_at plan p (own p) (column table p) g

  abbrev wide : ℕ → ℕ
  wide g = width_at plan.gates g

  abbrev offset : ℕ → ℕ
  offset p = (own p).part.offset % 2 ^ 128

  some : 0 < n
  some = let enough : 2 ≤ plan.parties = valid.some_parties in omega (arith, enough)

  offset_low : (p : ℕ) → IsLow (offset p)
  offset_low p = mod-lt (own p).part.offset (pow_pos 128)

  sent_in : (g r p q : ℕ) (gate : Gate) → p < n → q < n → (q ≡ p → ⊥) → slice_get plan.gates g ≡ Some gate →
      table g r q p ≡ get_or (gate_sends gate.kind (at g q) (before r (column table q g))) r silence p
  sent_in g r p q gate = sent plan owns table honest.each joint g r p q gate

  -- a garbled table at a gate
  module _ (g u v m width : ℕ) (found : slice_get plan.gates g ≡ Some (record { kind = Garble u v m; width = width })) where
    abbrev gate : Gate
    gate = record { kind = Garble u v m; width = width }

    is : IsGate plan g gate
    is = valid.each g gate found

    wide_here : wide g ≡ width
    wide_here = wide_is plan g gate found

    abbrev first : ℕ → Mask
    first p = party.mask (at g p) u

    abbrev second : ℕ → Mask
    second p = party.mask (at g p) v

    abbrev result : ℕ → Mask
    result p = party.mask (at g p) m

    first_fits : AreParts n (wide u) offset first
    first_fits = operand_fits plan owns bases session table valid honest joint g u is.uses.0

    second_fits : AreParts n (wide v) offset second
    second_fits = operand_fits plan owns bases session table valid honest joint g v is.uses.1.0

    result_fits : AreParts n (wide m) offset result
    result_fits = operand_fits plan owns bases session table valid honest joint g m is.uses.1.1.0

    first_small : (p : ℕ) → p < n → (first p).mask < 2 ^ wide g
    first_small = operand_small plan owns bases session table valid honest joint g u is.uses.0 (is.fit.0 ∙ sym wide_here)

    second_small : (p : ℕ) → p < n → (second p).mask < 2 ^ wide g
    second_small = operand_small plan owns bases session table valid honest joint g v is.uses.1.0 (is.fit.1.0 ∙ sym wide_here)

    -- ---- the product of both masks

    abbrev left : ℕ → ℕ
    left p = party.left_mask (at g p) u

    abbrev right : ℕ → ℕ
    right p = party.right_mask (at g p) v

    left_small : (p : ℕ) → p < n → left p < 2 ^ wide g
    left_small = mask_left_small plan owns table valid honest.each joint g u first_small

    right_small : (p : ℕ) → p < n → right p < 2 ^ wide g
    right_small = mask_right_small plan owns table valid honest.each joint g v second_small

    abbrev d : ℕ
    d = xor_to n left

    abbrev e : ℕ
    e = xor_to n right

    both_sent : (p q : ℕ) → p < n → q < n → (q ≡ p → ⊥) → table g 0 q p ≡ vectors_bytes (wide g) (left q ∷ right q ∷ [])
    both_sent p q a b apart = sent_in g 0 p q gate a b apart found

    d_is : (p : ℕ) → p < n → opened_vector (at g p) (left p) (λ q. table g 0 q p) 0 ≡ d
    d_is p h = opened_xor n p left (λ q. vector_in (wide g) (table g 0 q p) 0)
        (λ q b apart. ap (λ bytes. vector_in (wide g) bytes 0) (both_sent p q h b apart) ∙ vector_first (wide g) (left q) (right q ∷ []) (left_small q b))

    e_is : (p : ℕ) → p < n → opened_vector (at g p) (right p) (λ q. table g 0 q p) 1 ≡ e
    e_is p h = opened_xor n p right (λ q. vector_in (wide g) (table g 0 q p) 1)
        (λ q b apart. ap (λ bytes. vector_in (wide g) bytes 1) (both_sent p q h b apart) ∙ vector_second (wide g) (left q) (right q) [] (right_small q b))

    abbrev product : ℕ → ℕ
    product p = closed_share p (party.bit_triple (at g p)) d e

    product_is : (p : ℕ) → p < n → party.mask_product (at g p) u v (λ q. table g 0 q p) ≡ product p
    product_is p h = ap₂ (closed_share p (party.bit_triple (at g p))) (d_is p h) (e_is p h)

    here : g < length plan.gates
    here = inside_of plan.gates g gate found

    bits_needed : (needs_at plan g).bit ≡ wide g
    bits_needed = ap (λ o. (needs_there plan o).bit) found ∙ sym wide_here

    keys_needed : (needs_at plan g).key ≡ wide g
    keys_needed = ap (λ o. (needs_there plan o).key) found ∙ sym wide_here

    product_whole : xor_to n product ≡ bit_and (whole n first) (whole n second)
    product_whole =
        and-recombines n (λ p. (first p).mask) (λ p. (second p).mask) (λ p. party.bit_triple (at g p)) (whole n first) (whole n second) d e some
        (bit_triples_multiply plan owns bases session honest (wires g) g here bits_needed) refl refl refl refl

    -- ---- its shares times the offsets

    abbrev covered : ℕ → ℕ
    covered p = party.covered_product (at g p) u v (λ q. table g 0 q p)

    abbrev f : ℕ
    f = xor_to n covered

    told : (q : ℕ) → q < n → vector_in (wide g) (vectors_bytes (wide g) (covered q ∷ [])) 0 ≡ covered q
    told q b = vector_first (wide g) (covered q) [] (covered_small plan owns table valid honest.each joint g u v m width found first_small second_small q b)

    f_is : (p : ℕ) → p < n → opened_vector (at g p) (vector_in (wide g) (vectors_bytes (wide g) (covered p ∷ [])) 0) (λ q. table g 1 q p) 0 ≡ f
    f_is p h =
        ap (λ part. opened_vector (at g p) part (λ q. table g 1 q p) 0) (told p h)
        ∙ opened_xor n p covered (λ q. vector_in (wide g) (table g 1 q p) 0)
        (λ q b apart. ap (λ bytes. vector_in (wide g) bytes 0) (sent_in g 1 p q gate h b apart found) ∙ told q b)

    records : AreKeyBits n (wide g) offset (λ p. party.key_record (at g p))
    records = records_match plan owns bases session honest (wires g) g here keys_needed

    abbrev turned : ℕ → ℕ → ℕ → ℕ → ℕ
    turned s p = product_times (wide g) p (offset p) (party.key_record (at g p)) s

    turned_whole : AreTimes n offset (turned f) (bit_and (whole n first) (whole n second))
    turned_whole =
        product_times-recombine n (wide g) offset (λ p. party.key_record (at g p)) product (bit_and (whole n first) (whole n second)) f some records product_whole
        (xor_to_same n covered (λ p. product p ⊕ (party.fresh (at g p)).mask) (λ p h. ap (λ s. s ⊕ (party.fresh (at g p)).mask) (product_is p h)))

    abbrev products : ℕ → ℕ → ℕ → ℕ
    products p = party.product_keys (at g p) u v (column table p g)

    products_whole : AreTimes n offset products (bit_and (whole n first) (whole n second))
    products_whole i j h = xor_to_same n (λ p. products p i j) (λ p. turned f p i j) (λ p a. ap (λ s. turned s p i j) (f_is p a)) ∙ turned_whole i j h

    -- ---- the table

    abbrev share : ℕ → Entries
    share p = party.table_share (at g p) u v m (column table p g)

    shares_join : (i r j : ℕ) → j < n → xor_to n (λ p. share p i r j)
        ≡ garbled_entry n offset g first second result (whole n first) (whole n second) (whole n result) i r j
    shares_join i r j h =
        shares-join n offset g first second result products (whole n first) (whole n second) (whole n result)
        first_fits.mask.shares second_fits.mask.shares result_fits.mask.shares products_whole i r j h

    record_low : (p k j : ℕ) → IsLow (key_at (party.key_record (at g p) k).times j)
    record_low p k j = subst IsLow (sym (key_cut _ j)) (mod-lt _ (pow_pos 128))

    product_low : (p i j : ℕ) → IsLow (products p i j)
    product_low p i j =
        xor_lt 128 (cut (wide g) (λ k. key_at (party.key_record (at g p) k).times j) i) _
        (cut_low (wide g) (λ k. key_at (party.key_record (at g p) k).times j) i (λ k. record_low p k j)) (own_low p (offset p) _ i j (offset_low p))

    own_part_low : (p i r j : ℕ) → p < n → IsLow (own_part p (offset p) (result p) i r j)
    own_part_low p i r j h =
        either_low (j == p) ((result p).keys i ⊕ times (bit r 1 && bit r 0) (offset p)) 0
        (xor_lt 128 ((result p).keys i) (times (bit r 1 && bit r 0) (offset p)) ((result_fits.low p h).0 i) (times_low (bit r 1 && bit r 0) (offset p) (offset_low p)))
        (pow_pos 128)

    share_low : (p i r j : ℕ) → p < n → j < n → IsLow (share p i r j)
    share_low p i r j h a =
        xor_lt 128 _ (own_part p (offset p) (result p) i r j)
        (xor_lt 128 _ ((result p).shares i j)
        (xor_lt 128 _ (times (bit r 1) ((second p).shares i j))
        (xor_lt 128 _ (times (bit r 0) ((first p).shares i j))
        (xor_lt 128 _ (products p i j) (hiding_low _ _ g i r j) (product_low p i j))
        (times_low (bit r 0) ((first p).shares i j) ((first_fits.low p h).1 i j a)))
        (times_low (bit r 1) ((second p).shares i j) ((second_fits.low p h).1 i j a)))
        ((result_fits.low p h).1 i j a))
        (own_part_low p i r j h)

    abbrev count : ℕ
    count = 4 * wide g * n

    abbrev at_place : ℕ → ℕ → ℕ
    at_place q k = share q (k / n / 4) (k / n % 4) (k % n)

    share_back : (q k : ℕ) → q < n → k < count → key_in (key_bytes (party.own_table (at g q) u v m (column table q g))) k ≡ at_place q k
    share_back q k a less = key-back count (at_place q) k (λ c b. share_low q (c / n / 4) (c / n % 4) (c % n) a (mod-lt c some)) less

    part_is : (p q k : ℕ) → p < n → q < n → k < count → (b : Bool) → (q == p) ≡ b →
        key_in (cond b (key_bytes (party.own_table (at g p) u v m (column table p g))) (table g 2 q p)) k ≡ at_place q k
    part_is p q k h a less true same =
        ap (λ s. key_in (key_bytes (party.own_table (at g s) u v m (column table s g))) k) (sym (eqb-true q p same)) ∙ share_back q k a less
    part_is p q k h a less false same =
        ap (λ bytes. key_in bytes k) (sent_in g 2 p q gate h a (eqb-false q p same) found) ∙ share_back q k a less

    pub garbled : (p : ℕ) → p < n →
        IsGarbled n (wide g) offset g first second result (whole n first) (whole n second) (whole n result)
        (entries_in n (gate_value (Garble u v m) (at g p) (column table p g)))
    garbled p h i r j inside row small =
        let place = entry_place n i r j in
        let less : place < count = entry-inside n (wide g) i r j inside row small in
        key-there count _ place less
        ∙ (xor_to_same n _ (λ q. at_place q place) (λ q a. part_is p q place h a less (q == p) refl)
        ∙ (xor_to_same n (λ q. at_place q place) (λ q. share q i r j) (λ q a. place_is n i r j (share q) row small)
        ∙ shares_join i r j small))
