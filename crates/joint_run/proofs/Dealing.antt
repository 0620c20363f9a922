-- With honest parts the triples of all parties at a gate multiply, their key records match, and their offsets are odd.
use Rattle.std.proofs.Common.{ℕ, ◌≡◌, ◌<◌, ◌≤◌, ◌+◌, ◌*◌, ◌%◌, ◌^◌, List, length, map, sym, ◌∙◌, ap, ap₂, subst, arith, take, drop}
use Rattle.std.proofs.Math.Path.{fun_ext}
use Rattle.std.specs.Prelude.{slice_index, get_or, bit_and, ◌==◌}
use Rattle.std.specs.Int.{bit_at}
use Rattle.share_types.specs.declared.needs.Needs.{Needs}
use Rattle.share_types.specs.declared.needs.Kind.TheVariants.{Mult, Bit, Shared, Key}
use Rattle.share_types.specs.declared.records.MultTriple.{MultTriple}
use Rattle.share_types.specs.Sums.{sum_to, total, xor_to, xor_total}
use Rattle.share_types.proofs.Parties.{sum_to_same, xor_to_same}
use Rattle.share_types.specs.declared.records.KeyBit.{KeyBit}
use Rattle.share_types.specs.declared.records.SharedBit.{SharedBit}
use Rattle.share_types.specs.Bits.{once}
use Rattle.share_convert.specs.Convert.{shared_bit_at, no_shared_bit}
use Rattle.share_types.specs.Keys.{bit, times, key_at, parity_to, AreSharedBit, AreKeyBit}
use Rattle.bmr_keys.specs.Wires.{AreKeyBits, AreOdd}
use Rattle.bmr_keys.proofs.Labels.{bit-low}
use Rattle.bmr_keys.proofs.Sums.{parity-same}
use Rattle.bmr_garble.specs.Product.{key_bit_at, no_key_bit}
use Rattle.dealer_files.specs.Part.{Part}
use Rattle.dealer_files.specs.Records.{vector_of}
use Rattle.plan_gates.specs.Gate.{width_at}
use Rattle.plan_gates.specs.Plan.{Gates}
use Rattle.plan_gates.specs.Needs.{offset, needs_at}
use Rattle.plan_gates.proofs.NeedsLemmas.{records_never_meet}
use Rattle.joint_run.specs.Party as party
use Rattle.joint_run.specs.Party.{Own, Value, Hand}
use Rattle.joint_run.specs.Honest.{own_at, nobody, AreHonest, no_part}
use Rattle.joint_run.proofs.Standing.{hands}
use Rattle.joint_run.proofs.Grown.{map_map, total_is}
use Rattle.joint_run.proofs.Sharing.{xor_total_is, length_mapped, get_or_mapped}
use Rattle.joint_run.proofs.Keys.{times_cut, xor_cut, key_cut}
use Rattle.joint_run.proofs.Triples.{vectors_at, triples_vector}

module _ (plan : Gates) (owns : List Own) (bases : Needs) (session : ℕ) (honest : AreHonest plan owns bases session)
    (wires : ℕ → List Value) (g : ℕ) (inside : g < length plan.gates) where
  abbrev n : ℕ
  n = plan.parties

  abbrev own : ℕ → Own
  own p = own_at owns p

  abbrev at : ℕ → Hand
  at = hands plan own wires g

  abbrev wide : ℕ
  wide = width_at plan.gates g

  -- ---- products

  abbrev triple_of : ℕ → MultTriple
  triple_of p = party.triple (at p)

  abbrev place : ℕ
  place = bases.mult + (offset plan g).mult

  dealt : (F : MultTriple → ℕ) →
      total (map F (map (λ part. get_or part.mult place party.no_triple) (map (λ o. o.part) owns))) ≡ sum_to n (λ p. F (triple_of p))
  dealt F =
      ap total (map_map F (λ (part : Part). get_or part.mult place party.no_triple) (map (λ o. o.part) owns)
      ∙ map_map (λ (part : Part). F (get_or part.mult place party.no_triple)) (λ (o : Own). o.part) owns)
      ∙ (total_is (λ (o : Own). F (get_or o.part.mult place party.no_triple)) owns nobody
      ∙ (ap (λ m. sum_to m (λ p. F (get_or (own p).part.mult place party.no_triple))) honest.each
      ∙ sum_to_same n (λ p. F (get_or (own p).part.mult place party.no_triple)) (λ p. F (triple_of p))
      (λ p h. ap (λ (b : Needs). F (get_or (own p).part.mult (b.mult + (offset plan g).mult) party.no_triple)) (sym (honest.bases_are p h)))))

  in_stock : 0 < (needs_at plan g).mult → place < honest.counts.mult
  in_stock some =
      let meets = records_never_meet plan g (length plan.gates) Mult inside in
      let enough = honest.enough_mult in
      omega (arith, meets, some, enough)

  pub triples_multiply : 0 < (needs_at plan g).mult →
      sum_to n (λ p. (triple_of p).c) % 2 ^ 64 ≡ (sum_to n (λ p. (triple_of p).a) * sum_to n (λ p. (triple_of p).b)) % 2 ^ 64
  triples_multiply some =
      ap (λ s. s % 2 ^ 64) (sym (dealt (λ t. t.c)))
      ∙ (honest.honest.mult place party.no_triple (in_stock some)
      ∙ ap₂ (λ s t. (s * t) % 2 ^ 64) (dealt (λ t. t.a)) (dealt (λ t. t.b)))

  -- ---- ANDs

  abbrev stock_of : ℕ → List ℕ
  stock_of p = (own p).part.bits

  abbrev bit_place : ℕ
  bit_place = bases.bit + (offset plan g).bit

  xor_dealt : (at_record : ℕ) (bit : ℕ) →
      xor_total (map (λ r. bit_at r bit) (map (λ part. slice_index part.bits at_record) (map (λ o. o.part) owns)))
      ≡ xor_to n (λ p. bit_at (slice_index (stock_of p) at_record) bit)
  xor_dealt i bit =
      ap xor_total (map_map (λ r. bit_at r bit) (λ (part : Part). slice_index part.bits i) (map (λ o. o.part) owns)
      ∙ map_map (λ (part : Part). bit_at (slice_index part.bits i) bit) (λ (o : Own). o.part) owns)
      ∙ (xor_total_is (λ (o : Own). bit_at (slice_index o.part.bits i) bit) owns nobody
      ∙ ap (λ m. xor_to m (λ p. bit_at (slice_index (stock_of p) i) bit)) honest.each)

  stock_length : (p : ℕ) → p < n → length (stock_of p) ≡ honest.counts.bit
  stock_length p h =
      let parts = map (λ (o : Own). o.part) owns in
      let within : p < length parts = subst (λ m. p < m) (sym (length_mapped (λ (o : Own). o.part) owns ∙ honest.each)) h in
      let deal = honest.honest.one_deal p no_part within in
      ap (λ (part : Part). length part.bits) (sym (get_or_mapped (λ (o : Own). o.part) owns p nobody)) ∙ ap (λ (c : Needs). c.bit) deal.2

  bits_in_stock : (needs_at plan g).bit ≡ wide → bit_place + wide ≤ honest.counts.bit
  bits_in_stock needed =
      let meets = records_never_meet plan g (length plan.gates) Bit inside in
      let enough = honest.enough_bits in
      omega (arith, meets, needed, enough)

  bits_are : (bit p : ℕ) → p < n → vectors_at n stock_of bit bit_place wide p ≡ party.bits_of (at p) bit
  bits_are bit p h =
      ap (λ (b : Needs). vector_of bit (take wide (drop (b.bit + (offset plan g).bit) (stock_of p)))) (sym (honest.bases_are p h))

  pub bit_triples_multiply : (needs_at plan g).bit ≡ wide →
      xor_to n (λ p. party.bits_of (at p) 2) ≡ bit_and (xor_to n (λ p. party.bits_of (at p) 0)) (xor_to n (λ p. party.bits_of (at p) 1))
  bit_triples_multiply needed =
      let enough = bits_in_stock needed in
      sym (all 2)
      ∙ (triples_vector n stock_of bit_place wide
      (λ p h. let long = stock_length p h in omega (arith, enough, long))
      (λ i low high. sym (xor_dealt i 2) ∙ (honest.honest.bit i (omega (arith, high, enough)) ∙ ap₂ bit_and (xor_dealt i 0) (xor_dealt i 1)))
      ∙ ap₂ bit_and (all 0) (all 1))
    where
      all : (bit : ℕ) → xor_to n (vectors_at n stock_of bit bit_place wide) ≡ xor_to n (λ p. party.bits_of (at p) bit)
      all bit = xor_to_same n (vectors_at n stock_of bit bit_place wide) (λ p. party.bits_of (at p) bit) (λ p h. bits_are bit p h)

  -- ---- shared bits

  abbrev shared_place : ℕ → ℕ
  shared_place k = bases.shared + (offset plan g).shared + k

  abbrev dealt_shared : ℕ → ℕ → SharedBit
  dealt_shared k p = shared_bit_at (own p).part.shared (shared_place k)

  shared_in_stock : (w : ℕ) → (needs_at plan g).shared ≡ w → (k : ℕ) → k < w → shared_place k < honest.counts.shared
  shared_in_stock w needed k less =
      let meets = records_never_meet plan g (length plan.gates) Shared inside in
      let enough = honest.enough_shared in
      omega (arith, meets, needed, enough, less)

  shared_dealt : (k : ℕ) → shared_place k < honest.counts.shared → AreSharedBit n (dealt_shared k)
  shared_dealt k less =
      subst (λ (part : ℕ → Part). AreSharedBit n (λ p. get_or (part p).shared (shared_place k) no_shared_bit))
      (fun_ext (λ p. get_or_mapped (λ (o : Own). o.part) owns p nobody))
      (honest.honest.shared (shared_place k) no_part no_shared_bit less)

  shared_is : (k p : ℕ) → p < n → party.shared_bit (at p) k ≡ dealt_shared k p
  shared_is k p h = ap (λ (b : Needs). shared_bit_at (own p).part.shared (b.shared + (offset plan g).shared + k)) (honest.bases_are p h)

  pub shared_bits_match : (w : ℕ) → (needs_at plan g).shared ≡ w → (k : ℕ) → k < w → AreSharedBit n (λ p. party.shared_bit (at p) k)
  shared_bits_match w needed k less =
      ap (λ s. s % 2 ^ 64)
      (sum_to_same n (λ p. (party.shared_bit (at p) k).word) (λ p. (dealt_shared k p).word) (λ p h. ap (λ (r : SharedBit). r.word) (shared_is k p h)))
      ∙ (shared_dealt k (shared_in_stock w needed k less)
      ∙ ap once (parity-same n (λ p. (dealt_shared k p).bit) (λ p. (party.shared_bit (at p) k).bit) (λ p h. ap (λ (r : SharedBit). r.bit) (sym (shared_is k p h)))))

  -- ---- key records and offsets

  abbrev key_place : ℕ → ℕ
  key_place k = bases.key + (offset plan g).key + k

  abbrev dealt_key : ℕ → ℕ → KeyBit
  dealt_key k p = key_bit_at (own p).part.keys (key_place k)

  -- the parties' parts, in their order
  abbrev part_in : ℕ → Part
  part_in p = get_or (map (λ o. o.part) owns) p no_part

  abbrev part_of : ℕ → Part
  part_of p = (own p).part

  parts_are : part_in ≡ part_of
  parts_are = fun_ext (λ p. get_or_mapped (λ (o : Own). o.part) owns p nobody)

  keys_in_stock : (needs_at plan g).key ≡ wide → (k : ℕ) → k < wide → key_place k < honest.counts.key
  keys_in_stock needed k less =
      let meets = records_never_meet plan g (length plan.gates) Key inside in
      let enough = honest.enough_keys in
      omega (arith, meets, needed, enough, less)

  dealt_match : (k : ℕ) → key_place k < honest.counts.key → AreKeyBit n (λ p. (own p).part.offset) (dealt_key k)
  dealt_match k less =
      subst (λ (part : ℕ → Part). AreKeyBit n (λ p. (part p).offset) (λ p. get_or (part p).keys (key_place k) no_key_bit)) parts_are
      (honest.honest.key (key_place k) no_part no_key_bit less)

  record_is : (k p : ℕ) → p < n → party.key_record (at p) k ≡ party.low_keys (dealt_key k p)
  record_is k p h = ap (λ (b : Needs). party.low_keys (key_bit_at (own p).part.keys (b.key + (offset plan g).key + k))) (honest.bases_are p h)

  pub records_match : (needs_at plan g).key ≡ wide → AreKeyBits n wide (λ p. (own p).part.offset % 2 ^ 128) (λ p. party.key_record (at p))
  records_match needed k less j h =
      let records : ℕ → KeyBit = λ p. party.key_record (at p) k in
      let keys : ℕ → ℕ = λ p. key_at (dealt_key k p).times j in
      xor_to_same n (λ p. key_at (records p).times j) (λ p. keys p % 2 ^ 128)
      (λ p a. ap (λ (r : KeyBit). key_at r.times j) (record_is k p a) ∙ key_cut (dealt_key k p).times j)
      ∙ (xor_cut n keys
      ∙ (ap (λ m. m % 2 ^ 128) (dealt_match k (keys_in_stock needed k less) j h)
      ∙ (times_cut (parity_to n (λ p. (dealt_key k p).bit)) (own j).part.offset
      ∙ ap (λ b. times b ((own j).part.offset % 2 ^ 128))
      (parity-same n (λ p. (dealt_key k p).bit) (λ p. (records p).bit) (λ p a. ap (λ (r : KeyBit). r.bit) (sym (record_is k p a)))))))

  pub offsets_odd : AreOdd n (λ p. (own p).part.offset % 2 ^ 128)
  offsets_odd j h =
      let parts = map (λ (o : Own). o.part) owns in
      let within : j < length parts = subst (λ m. j < m) (sym (length_mapped (λ (o : Own). o.part) owns ∙ honest.each)) h in
      bit-low (own j).part.offset 128 0 (omega arith)
      ∙ ap (λ d. d == 1) (ap (λ (part : ℕ → Part). bit_at (part j).offset 0) (sym parts_are) ∙ honest.honest.odd j no_part within)
