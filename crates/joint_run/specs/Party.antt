-- What a party makes of its own data and of what it is sent: for each kind of gate the party's value, and what it sends.
use Rattle.std.specs.Prelude.{ℕ, zero, suc, ◌+◌, ◌*◌, ◌/◌, ◌%◌, ◌^◌, Bool, ◌==◌, nat_lt, List, [], ◌∷◌, ◌++◌, take, drop, map, slice_get, get_or, Option, Some, None, if◌then◌else◌, bit_xor}
use Rattle.mot_base.specs.Tape.{share_of_tape}
use Rattle.share_types.specs.declared.needs.Needs.{Needs}
use Rattle.share_types.specs.declared.records.MultTriple.{MultTriple}
use Rattle.share_types.specs.Bits.{number}
use Rattle.share_types.specs.declared.records.KeyBit.{KeyBit}
use Rattle.share_types.specs.declared.records.SharedBit.{SharedBit}
use Rattle.share_types.specs.declared.keys.Key.{Key}
use Rattle.share_types.specs.Keys.{key_at, key_of}
use Rattle.share_types.specs.Sums.{word_sum, word_difference, word_product, part_of_public, sum_to, xor_to, each}
use Rattle.arithmetic_gmw.specs.Shares as arithmetic
use Rattle.boolean_gmw.specs.Shares as boolean
use Rattle.bmr_keys.specs.Hiding.{zero_key_of}
use Rattle.bmr_keys.specs.Mask.{Mask, fresh_mask, constant_mask, xor_mask, flip_mask, slice_mask, join_mask}
use Rattle.bmr_keys.specs.Payload.{key_bytes, key_in}
use Rattle.bmr_keys.specs.Wires.{Active}
use Rattle.bmr_garble.specs.Product.{key_bit_at, product_times}
use Rattle.bmr_garble.specs.Table.{Entries, entry_place, share_entry}
use Rattle.bmr_eval.specs.Active.{own_active, zero_active, xor_active, slice_active, join_active, and_active}
use Rattle.share_convert.specs.Convert.{opened_share, shared_bit_at, covered_share, closed_word}
use Rattle.dealer_files.specs.Part.{Part}
use Rattle.dealer_files.specs.Records.{vector_of}
use Rattle.plan_gates.specs.Gate.{Kind, Gate, InA, ConstA, AddA, SubA, AddConstA, MulConstA, MulA, OutA, InB, ConstB, XorB, XorConstB, SliceB, JoinB, AndB, OutB, KeyMask, ConstMask, XorMask, FlipMask, SliceMask, JoinMask, InOnline, ZeroOnline, XorOnline, SliceOnline, JoinOnline, Garble, EvalY, YToB, width_at, ShareAOnline, ShareBOnline, BToA}
use Rattle.plan_gates.specs.Plan.{Gates}
use Rattle.plan_gates.specs.Needs.{offset}
use Rattle.share_types.specs.Needs.{sum_of_needs}
use Rattle.plan_gates.specs.Messages.{are_two}
use Rattle.share_types.specs.Wires.{includes}
use Rattle.joint_run.specs.Payload.{word_bytes, word_in, vectors_bytes, vector_in}

-- ---- what a party has

-- what one party brings: the seed of its tape, its input values, the session, from which record of each kind on this run
-- uses the dealer's part, and the part
pub record Own : Type 0 where
  pub seed : List ℕ
  pub inputs : List (List Bool)
  pub session : ℕ
  pub bases : Needs
  pub part : Part

-- what a party has of a gate: a share of a word, a share of a vector, what it is told, if it is told something, and of
-- garbled circuits its part of a mask (its share of the bits, its zero key of each bit, and its share of each bit times
-- each owner's offset), the masked bits of a wire with the active key of each bit and owner, or the keys of a table by bit,
-- row and owner
pub data Value : Type 0 where
  WordShare : ℕ → Value
  VectorShare : ℕ → Value
  Told : Option ℕ → Value
  MaskShare : (mask : ℕ) (keys times : List Key) → Value
  Online : (masked : ℕ) (keys : List Key) → Value
  Table : (rows : List Key) → Value

-- a payload is a list of bytes, and an empty one is none
abbrev pub Payload : Type 0
Payload = List ℕ

-- what a party is sent in one round of a gate, by sender; at one gate, by round; in a run, by gate
abbrev pub Heard : Type 0
Heard = ℕ → Payload

abbrev pub Rounds : Type 0
Rounds = ℕ → Heard

abbrev pub Inbox : Type 0
Inbox = ℕ → Rounds

-- what a party has at hand at a gate: the plan, its own number and data, the gate's number, and its values of the gates
-- before
pub record Hand : Type 0 where
  pub plan : Gates
  pub me : ℕ
  pub own : Own
  pub gate : ℕ
  pub wires : List Value

-- the share of a word, and that of a vector
abbrev pub word_share : Value → ℕ
word_share (WordShare w) = w
word_share _ = 0

abbrev pub vector_share : Value → ℕ
vector_share (VectorShare v) = v
vector_share _ = 0

-- the part of a mask, what is seen of a wire, and the entries of a table, among so many parties
abbrev pub mask_part : ℕ → Value → Mask
mask_part n (MaskShare mask keys times) = record { mask = mask; keys = key_at keys; shares = key_of n times }
mask_part n _ = record { mask = 0; keys = key_at []; shares = key_of n [] }

abbrev pub active_part : ℕ → Value → Active
active_part n (Online masked keys) = record { masked = masked; keys = key_of n keys }
active_part n _ = record { masked = 0; keys = key_of n [] }

abbrev pub entries_in : ℕ → Value → Entries
entries_in n (Table rows) i r j = key_at rows (entry_place n i r j)
entries_in n _ i r j = 0

-- the party's share of an operand that is a word, and of one that is a vector
abbrev pub word : Hand → ℕ → ℕ
word h x = word_share (get_or h.wires x (Told None))

abbrev pub vector : Hand → ℕ → ℕ
vector h x = vector_share (get_or h.wires x (Told None))

-- how many parties there are, and how wide the value of the gate is
abbrev pub parties : Hand → ℕ
parties h = h.plan.parties

-- the party's part of an operand that is a mask, what it sees of one that is the masked bits of a wire, and the entries of
-- one that is a table
abbrev pub mask : Hand → ℕ → Mask
mask h u = mask_part (parties h) (get_or h.wires u (Told None))

abbrev pub online : Hand → ℕ → Active
online h a = active_part (parties h) (get_or h.wires a (Told None))

abbrev pub table : Hand → ℕ → Entries
table h t = entries_in (parties h) (get_or h.wires t (Told None))

abbrev pub width : Hand → ℕ
width h = width_at h.plan.gates h.gate

-- the number of an input of the party
abbrev pub input : Hand → ℕ → ℕ
input h k = number (get_or h.own.inputs k [])

-- the places of the gate's first records in the dealer's part
abbrev pub first : Hand → Needs
first h = sum_of_needs h.own.bases (offset h.plan h.gate)

-- an opened word, and an opened vector of a width, or of the gate's: what all parties' parts recombine to, the own one and
-- number i of what was heard
abbrev pub opened_word : Hand → ℕ → Heard → ℕ → ℕ
opened_word h part heard i = sum_to (parties h) (λ q. if q == h.me then part else word_in (heard q) i) % 2 ^ 64

abbrev pub opened_bits : Hand → ℕ → ℕ → Heard → ℕ → ℕ
opened_bits h w part heard i = xor_to (parties h) (λ q. if q == h.me then part else vector_in w (heard q) i)

abbrev pub opened_vector : Hand → ℕ → Heard → ℕ → ℕ
opened_vector h part heard i = opened_bits h (width h) part heard i

-- ---- inputs: the owner keeps what the words that it gives out leave of the value

abbrev pub given_word : Hand → ℕ → ℕ
given_word h to = share_of_tape h.own.seed h.own.session h.gate to

abbrev pub kept_word : Hand → ℕ → ℕ
kept_word h k = word_difference (input h k) (sum_to (parties h) (λ q. if q == h.me then 0 else given_word h q))

abbrev pub given_vector : Hand → ℕ → ℕ
given_vector h to = given_word h to % 2 ^ width h

abbrev pub kept_vector : Hand → ℕ → ℕ → ℕ
kept_vector h k at =
    bit_xor (input h k / 2 ^ at % 2 ^ width h) (xor_to (parties h) (λ q. if q == h.me then 0 else given_vector h q))

-- ---- products: d = x - a and e = y - b are opened, and the share is c + d*b + e*a, for party 0 plus d*e

abbrev pub no_triple : MultTriple
no_triple = record { a = 0; b = 0; c = 0 }

abbrev pub triple : Hand → MultTriple
triple h = get_or h.own.part.mult (first h).mult no_triple

abbrev pub left_word : Hand → ℕ → ℕ
left_word h x = arithmetic.opened_left (word h x) (triple h)

abbrev pub right_word : Hand → ℕ → ℕ
right_word h y = arithmetic.opened_right (word h y) (triple h)

abbrev pub product : Hand → ℕ → ℕ → Heard → ℕ
product h x y heard =
    arithmetic.closed_share h.me (triple h) (opened_word h (left_word h x) heard 0) (opened_word h (right_word h y) heard 1)

-- ---- ANDs: the same with XOR and AND, over a bit triple for each bit

-- the party's bits a, b or c of the gate's bit triples, as a vector
abbrev pub bits_of : Hand → ℕ → ℕ
bits_of h bit = vector_of bit (take (width h) (drop (first h).bit h.own.part.bits))

abbrev pub bit_triple : Hand → boolean.Triple
bit_triple h = record { a = bits_of h 0; b = bits_of h 1; c = bits_of h 2 }

abbrev pub left_vector : Hand → ℕ → ℕ
left_vector h x = boolean.opened_left (vector h x) (bit_triple h)

abbrev pub right_vector : Hand → ℕ → ℕ
right_vector h y = boolean.opened_right (vector h y) (bit_triple h)

abbrev pub conjunction : Hand → ℕ → ℕ → Heard → ℕ
conjunction h x y heard =
    boolean.closed_share h.me (bit_triple h) (opened_vector h (left_vector h x) heard 0)
    (opened_vector h (right_vector h y) heard 1)

-- ---- masks and masked bits of wires that are shared as keys

-- so many keys, and a key for each bit and owner
abbrev pub keys_of : ℕ → (ℕ → ℕ) → List Key
keys_of count f = each count (λ k. record { 0 = f k })

abbrev pub owner_keys : ℕ → ℕ → (ℕ → ℕ → ℕ) → List Key
owner_keys n width f = keys_of (width * n) (λ k. f (k / n) (k % n))

-- a part of a mask, and what is seen of a wire, as the value of the gate
abbrev pub mask_value : Hand → Mask → Value
mask_value h u = MaskShare u.mask (keys_of (width h) u.keys) (owner_keys (parties h) (width h) u.shares)

abbrev pub online_value : Hand → Active → Value
online_value h a = Online a.masked (owner_keys (parties h) (width h) a.keys)

-- the party's offset, which is a key of 128 bits
abbrev pub key_offset : Hand → ℕ
key_offset h = h.own.part.offset % 2 ^ 128

-- a key record of the gate, its keys of 128 bits too, and the zero key of the same number
abbrev pub low_keys : KeyBit → KeyBit
low_keys r = record { bit = r.bit; times = map (λ key. record { 0 = key.0 % 2 ^ 128 }) r.times }

abbrev pub key_record : Hand → ℕ → KeyBit
key_record h k = low_keys (key_bit_at h.own.part.keys ((first h).key + k))

abbrev pub zero_key : Hand → ℕ → ℕ
zero_key h k = zero_key_of h.own.seed ((first h).key + k)

-- the mask of the gate's key records
abbrev pub fresh : Hand → Mask
fresh h = fresh_mask (width h) (key_record h) (zero_key h)

-- ---- entries: the owner of a value x hears the shares of its mask and tells the masked bits, of which each party tells
-- its active keys

abbrev pub masked_by_owner : Hand → ℕ → ℕ → Heard → ℕ
masked_by_owner h m x heard = bit_xor x (opened_vector h (mask h m).mask heard 0)

-- the payload that tells them, from which all parties read them, the owner too
abbrev pub masked_payload : Hand → ℕ → ℕ → ℕ → Rounds → Payload
masked_payload h party m x got =
    if h.me == party then vectors_bytes (width h) (masked_by_owner h m x (got 0) ∷ []) else got 1 party

abbrev pub masked : Hand → ℕ → ℕ → ℕ → Rounds → ℕ
masked h party m x got = vector_in (width h) (masked_payload h party m x got) 0

abbrev pub own_keys : Hand → ℕ → ℕ → List Key
own_keys h m t = keys_of (width h) (own_active (mask h m) (key_offset h) t)

abbrev pub entered : Hand → ℕ → ℕ → ℕ → Rounds → Active
entered h party m x got = record {
  masked = masked h party m x got;
  keys = λ i j. if j == h.me then key_at (own_keys h m (masked h party m x got)) i else key_in (got 2 j) i;
}

abbrev pub entry_sends : Hand → ℕ → ℕ → ℕ → Rounds → List Heard
entry_sends h party m x got =
    (λ to. if to == party then vectors_bytes (width h) ((mask h m).mask ∷ []) else [])
    ∷ (λ to. if h.me == party then vectors_bytes (width h) (masked_by_owner h m x (got 0) ∷ []) else [])
    ∷ (λ to. key_bytes (own_keys h m (masked h party m x got))) ∷ []

-- the value that a party enters of an input, and that of its own share of a word or of a vector
abbrev pub input_bits : Hand → ℕ → ℕ → ℕ
input_bits h k at = input h k / 2 ^ at % 2 ^ width h

abbrev pub word_bits : Hand → ℕ → ℕ
word_bits h x = word h x % 2 ^ width h

abbrev pub vector_bits : Hand → ℕ → ℕ
vector_bits h x = vector h x % 2 ^ width h

-- ---- garbled tables: the product of both masks is shared, by bit triples and then, XOR the bits of key records, times
-- each owner's offset; the shares of the table are told

abbrev pub left_mask : Hand → ℕ → ℕ
left_mask h u = boolean.opened_left (mask h u).mask (bit_triple h)

abbrev pub right_mask : Hand → ℕ → ℕ
right_mask h v = boolean.opened_right (mask h v).mask (bit_triple h)

abbrev pub mask_product : Hand → ℕ → ℕ → Heard → ℕ
mask_product h u v heard =
    boolean.closed_share h.me (bit_triple h) (opened_vector h (left_mask h u) heard 0)
    (opened_vector h (right_mask h v) heard 1)

abbrev pub covered_product : Hand → ℕ → ℕ → Heard → ℕ
covered_product h u v heard = bit_xor (mask_product h u v heard) (fresh h).mask

-- what is opened is read from payloads, the own part too
abbrev pub product_payload : Hand → ℕ → ℕ → Heard → Payload
product_payload h u v heard = vectors_bytes (width h) (covered_product h u v heard ∷ [])

-- the party's share of the product times each owner's offset
abbrev pub product_keys : Hand → ℕ → ℕ → Rounds → ℕ → ℕ → ℕ
product_keys h u v got =
    product_times (width h) h.me (key_offset h) (key_record h)
    (opened_vector h (vector_in (width h) (product_payload h u v (got 0)) 0) (got 1) 0)

-- the party's share of the table, and the table
abbrev pub table_share : Hand → ℕ → ℕ → ℕ → Rounds → Entries
table_share h u v m got =
    share_entry h.me (key_offset h) h.gate (mask h u) (mask h v) (mask h m) (product_keys h u v got)

abbrev pub table_keys : Hand → Entries → List Key
table_keys h entries =
    keys_of (4 * width h * parties h) (λ k. entries (k / parties h / 4) (k / parties h % 4) (k % parties h))

abbrev pub own_table : Hand → ℕ → ℕ → ℕ → Rounds → List Key
own_table h u v m got = table_keys h (table_share h u v m got)

-- each share is read from its payload, the own one too
abbrev pub joined_table : Hand → ℕ → ℕ → ℕ → Rounds → List Key
joined_table h u v m got =
    keys_of (4 * width h * parties h)
    (λ k. xor_to (parties h) (λ q. key_in (if q == h.me then key_bytes (own_table h u v m got) else got 2 q) k))

abbrev pub garble_sends : Hand → ℕ → ℕ → ℕ → Rounds → List Heard
garble_sends h u v m got =
    (λ to. vectors_bytes (width h) (left_mask h u ∷ right_mask h v ∷ []))
    ∷ (λ to. product_payload h u v (got 0))
    ∷ (λ to. key_bytes (own_table h u v m got)) ∷ []

-- ---- a vector as a word: its bits XOR shared bits are opened, and each shared bit, which is shared by sum too, is turned by
-- the opened one

abbrev pub low : Hand → ℕ → ℕ
low h x = width_at h.plan.gates x

abbrev pub shared_bit : Hand → ℕ → SharedBit
shared_bit h k = shared_bit_at h.own.part.shared ((first h).shared + k)

abbrev pub covered_vector : Hand → ℕ → ℕ
covered_vector h x = covered_share (low h x) (vector h x) (shared_bit h)

abbrev pub closed_vector : Hand → ℕ → Heard → ℕ
closed_vector h x heard =
    closed_word h.me (low h x) (shared_bit h) (opened_bits h (low h x) (covered_vector h x) heard 0)

-- ---- the equations

-- the value of a gate, from what the party has at hand and what it hears in all rounds
abbrev pub gate_value : Kind → Hand → Rounds → Value
gate_value (InA party k) h got = WordShare (if party == h.me then kept_word h k else word_in (got 0 party) 0)
gate_value (ConstA c) h got = WordShare (part_of_public h.me c)
gate_value (AddA x y) h got = WordShare (word_sum (word h x) (word h y))
gate_value (SubA x y) h got = WordShare (word_difference (word h x) (word h y))
gate_value (AddConstA x c) h got = WordShare (arithmetic.raised_share h.me (word h x) c)
gate_value (MulConstA x c) h got = WordShare (word_product (word h x) c)
gate_value (MulA x y) h got = WordShare (product h x y (got 0))
gate_value (OutA x to) h got = Told (if includes to h.me then Some (opened_word h (word h x) (got 0) 0) else None)
gate_value (InB party k at) h got =
    VectorShare (if party == h.me then kept_vector h k at else vector_in (width h) (got 0 party) 0)
gate_value (ConstB c) h got = VectorShare (part_of_public h.me c)
gate_value (XorB x y) h got = VectorShare (bit_xor (vector h x) (vector h y))
gate_value (XorConstB x c) h got = VectorShare (boolean.flipped_share h.me (vector h x) c)
gate_value (SliceB x at) h got = VectorShare (vector h x / 2 ^ at % 2 ^ width h)
gate_value (JoinB x y) h got = VectorShare (vector h x + 2 ^ width_at h.plan.gates x * vector h y)
gate_value (AndB x y) h got = VectorShare (conjunction h x y (got 0))
gate_value (OutB x to) h got = Told (if includes to h.me then Some (opened_vector h (vector h x) (got 0) 0) else None)
gate_value KeyMask h got = mask_value h (fresh h)
gate_value (ConstMask c) h got = mask_value h (constant_mask h.me (key_offset h) c)
gate_value (XorMask u v) h got = mask_value h (xor_mask (mask h u) (mask h v))
gate_value (FlipMask u c) h got = mask_value h (flip_mask h.me (key_offset h) (mask h u) c)
gate_value (SliceMask u at) h got = mask_value h (slice_mask at (width h) (mask h u))
gate_value (JoinMask u v) h got = mask_value h (join_mask (width_at h.plan.gates u) (mask h u) (mask h v))
gate_value (InOnline party k at m) h got = online_value h (entered h party m (input_bits h k at) got)
gate_value ZeroOnline h got = online_value h zero_active
gate_value (XorOnline u v) h got = online_value h (xor_active (online h u) (online h v))
gate_value (SliceOnline u at) h got = online_value h (slice_active at (width h) (online h u))
gate_value (JoinOnline u v) h got = online_value h (join_active (width_at h.plan.gates u) (online h u) (online h v))
gate_value (Garble u v m) h got = Table (joined_table h u v m got)
gate_value (EvalY t u v) h got = online_value h (and_active (parties h) (width h) (table h t) t (online h u) (online h v))
gate_value (YToB m o) h got = VectorShare (opened_share h.me (mask h m).mask (online h o).masked)
gate_value (ShareAOnline party x m) h got = online_value h (entered h party m (word_bits h x) got)
gate_value (ShareBOnline party x m) h got = online_value h (entered h party m (vector_bits h x) got)
gate_value (BToA x) h got = WordShare (closed_vector h x (got 0))

-- what the party has to send at a gate: for each round in order, the payload by receiver
abbrev pub gate_sends : Kind → Hand → Rounds → List Heard
gate_sends (InA party k) h got = (λ to. if party == h.me then word_bytes (given_word h to ∷ []) else []) ∷ []
gate_sends (MulA x y) h got = (λ to. word_bytes (left_word h x ∷ right_word h y ∷ [])) ∷ []
gate_sends (OutA x receiver) h got = (λ to. if includes receiver to then word_bytes (word h x ∷ []) else []) ∷ []
gate_sends (InB party k at) h got =
    (λ to. if party == h.me then vectors_bytes (width h) (given_vector h to ∷ []) else []) ∷ []
gate_sends (AndB x y) h got = (λ to. vectors_bytes (width h) (left_vector h x ∷ right_vector h y ∷ [])) ∷ []
gate_sends (OutB x receiver) h got =
    (λ to. if includes receiver to then vectors_bytes (width h) (vector h x ∷ []) else []) ∷ []
gate_sends (InOnline party k at m) h got = entry_sends h party m (input_bits h k at) got
gate_sends (ShareAOnline party x m) h got = entry_sends h party m (word_bits h x) got
gate_sends (ShareBOnline party x m) h got = entry_sends h party m (vector_bits h x) got
gate_sends (Garble u v m) h got = garble_sends h u v m got
gate_sends (BToA x) h got = (λ to. vectors_bytes (low h x) (covered_vector h x ∷ [])) ∷ []
gate_sends _ h got = []

-- ---- a whole plan

-- there is no gate behind the last one
abbrev pub value_at : Option Gate → Hand → Rounds → Value
value_at None h got = Told None
value_at (Some gate) h got = gate_value gate.kind h got

abbrev pub sends_at : Option Gate → Hand → Rounds → List Heard
sends_at None h got = []
sends_at (Some gate) h got = gate_sends gate.kind h got

abbrev pub silence : Heard
silence q = []

-- what is heard in the rounds before this one
abbrev pub before : ℕ → Rounds → Rounds
before r got k = if nat_lt k r then got k else silence

-- what is sent in a round: it rests on the rounds before it alone, and goes to the other parties alone
abbrev pub round_sends : Option Gate → Hand → Rounds → ℕ → Heard
round_sends gate h got r to =
    if are_two (parties h) h.me to then get_or (sends_at gate h (before r got)) r silence to else []

abbrev pub hand : Gates → ℕ → Own → ℕ → List Value → Hand
hand plan me own g wires = record { plan = plan; me = me; own = own; gate = g; wires = wires }

-- a party's values of the gates before this one
abbrev pub wires_before : Gates → ℕ → Own → Inbox → ℕ → List Value
wires_before plan me own inbox zero = []
wires_before plan me own inbox (suc g) =
    wires_before plan me own inbox g
    ++ value_at (slice_get plan.gates g) (hand plan me own g (wires_before plan me own inbox g)) (inbox g) ∷ []

abbrev pub hand_at : Gates → ℕ → Own → Inbox → ℕ → Hand
hand_at plan me own inbox g = hand plan me own g (wires_before plan me own inbox g)

-- a party's value of a gate, and what it sends there
abbrev pub party_value : Gates → ℕ → Own → Inbox → ℕ → Value
party_value plan me own inbox g = value_at (slice_get plan.gates g) (hand_at plan me own inbox g) (inbox g)

abbrev pub party_sends : Gates → ℕ → Own → Inbox → ℕ → ℕ → ℕ → Payload
party_sends plan me own inbox g r to =
    round_sends (slice_get plan.gates g) (hand_at plan me own inbox g) (inbox g) r to
