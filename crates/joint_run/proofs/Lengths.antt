-- The payloads of a joint run have the lengths that the plan states.
use Rattle.std.proofs.Common.{ℕ, zero, suc, ◌≡◌, ◌<◌, ◌+◌, ◌*◌, Bool, true, false, List, [], ◌∷◌, length, Option, Some, None, refl, sym, ◌∙◌, ap, ap₂, subst, arith}
use Rattle.std.specs.Prelude.{option_map, slice_get, get_or, nat_lt, ◌==◌, if◌then◌else◌}
use Rattle.std.specs.Option.{unwrap_or}
use Rattle.std.proofs.lemmas.List.{length-append}
use Rattle.std.proofs.lemmas.Bool.{ltb-true}
use Rattle.byteorder.specs.Numbers.{length-bytes_high_first}
use Rattle.byteorder.specs.Endian.{big_bytes}
use Rattle.message_demux.specs.Slots.{vector_bytes}
use Rattle.plan_gates.specs.Gate.{Kind, Gate, width_at, InA, MulA, OutA, InB, AndB, OutB, InOnline, ShareAOnline, ShareBOnline, Garble, BToA, low_width}
use Rattle.plan_gates.specs.declared.draft.Sizes.{Sizes}
use Rattle.plan_gates.specs.Plan.{Gates, sizes_of}
use Rattle.plan_gates.specs.Messages.{words, vectors, messages_of, messages_at, message, are_two, entry_messages}
use Rattle.share_types.specs.Wires.{includes}
use Rattle.share_types.specs.declared.keys.Key.{Key}
use Rattle.share_types.proofs.Parties.{length-each}
use Rattle.bmr_keys.specs.Payload.{key_bytes}
use Rattle.bmr_keys.proofs.Payloads.{keys-length}
use Rattle.joint_run.specs.Payload.{word_bytes, vectors_bytes}
use Rattle.joint_run.specs.Party.{Own, Hand, Rounds, Inbox, party_sends, width, hand_at, before, silence, gate_sends, sends_at, word, vector, given_word, given_vector, left_word, right_word, left_vector, right_vector, parties, keys_of, mask, masked_by_owner, input_bits, left_mask, right_mask, covered_product, entry_sends, word_bits, vector_bits, low, covered_vector}
use Rattle.joint_run.specs.Honest.{nobody}
use Rattle.joint_run.specs.Joint.{Payloads, column, sent_by, IsJoint}
use Rattle.joint_run.specs.Laws.{length_of, PayloadsHaveTheirLengths}
use Rattle.joint_run.proofs.Grown.{there_is}
use Rattle.mot_base.proofs.Lists.{equal_turned as turned}

words-length : (ws : List ℕ) → length (word_bytes ws) ≡ 8 * length ws
words-length [] = refl
words-length (x ∷ ws) =
    let rest = words-length ws in
    let first = length-bytes_high_first 8 x in
    length-append (big_bytes 8 x) (word_bytes ws) ∙ omega (arith, rest, first)

vectors-length : (w : ℕ) (vs : List ℕ) → length (vectors_bytes w vs) ≡ length vs * vector_bytes w
vectors-length w [] = omega arith
vectors-length w (x ∷ vs) =
    let rest = vectors-length w vs in
    let first = length-bytes_high_first (vector_bytes w) x in
    length-append (big_bytes (vector_bytes w) x) (vectors_bytes w vs) ∙ (ap₂ (λ a b. a + b) first rest ∙ more (length vs) (vector_bytes w))
  where
    more : (a b : ℕ) → b + a * b ≡ suc a * b
    more a b = omega arith

-- a payload that is sent if something holds, and the message that is stated if it does
chosen : (b : Bool) (bytes : List ℕ) (w count : ℕ) → length bytes ≡ count * vector_bytes w →
    length (if b then bytes else []) ≡ length_of (if b then Some (vectors count w) else None)
chosen true bytes w count is = is
chosen false bytes w count is = refl

chosen_words : (b : Bool) (bytes : List ℕ) (count : ℕ) → length bytes ≡ 8 * count →
    length (if b then bytes else []) ≡ length_of (if b then Some (words count) else None)
chosen_words true bytes count is = is
chosen_words false bytes count is = refl

keys_bytes-length : (count : ℕ) (f : ℕ → ℕ) → length (key_bytes (keys_of count f)) ≡ 16 * count
keys_bytes-length count f =
    keys-length (keys_of count f) ∙ ap (λ n. 16 * n) (length-each {X = Key} count (λ k. record { 0 = f k }))

-- the bytes of w keys are 2 w words, and those of 4 w keys for each of n owners are 8 n w words
key_words : (w : ℕ) → 16 * w ≡ 8 * (2 * w)
key_words w = omega arith

table_words : (w n : ℕ) → 16 * (4 * w * n) ≡ 8 * (8 * n * w)
table_words w n = omega arith

-- what is sent of an entry
entry_fits : (party m x : ℕ) (sizes : Sizes) (h : Hand) (got : Rounds) (to r : ℕ) → width h ≡ sizes.width →
    length (get_or (entry_sends h party m x got) r silence to) ≡ length_of (unwrap_or (slice_get (entry_messages party sizes.width h.me to) r) None)
entry_fits party m x sizes h got to zero e =
    let vs : List ℕ = (mask h m).mask ∷ [] in
    chosen (to == party) (vectors_bytes (width h) vs) (width h) 1 (vectors-length (width h) vs)
    ∙ ap (λ v. length_of (if to == party then Some (vectors 1 v) else None)) e
entry_fits party m x sizes h got to (suc zero) e =
    let vs : List ℕ = masked_by_owner h m x (got 0) ∷ [] in
    chosen (h.me == party) (vectors_bytes (width h) vs) (width h) 1 (vectors-length (width h) vs)
    ∙ ap (λ v. length_of (if h.me == party then Some (vectors 1 v) else None)) e
entry_fits party m x sizes h got to (suc (suc zero)) e =
    keys_bytes-length (width h) _ ∙ (key_words (width h) ∙ ap (λ v. 8 * (2 * v)) e)
entry_fits party m x sizes h got to (suc (suc (suc r))) e = refl

-- what is sent in a round of a gate, and the message that is stated
fits : (kind : Kind) → (sizes : Sizes) (h : Hand) (got : Rounds) (to r : ℕ) → width h ≡ sizes.width → parties h ≡ sizes.parties → low_width h.plan.gates kind ≡ sizes.low →
    length (get_or (gate_sends kind h got) r silence to) ≡ length_of (unwrap_or (slice_get (messages_of kind sizes h.me to) r) None)
fits (InA party k) sizes h got to zero e u l =
    let ws : List ℕ = given_word h to ∷ [] in
    chosen_words (party == h.me) (word_bytes ws) 1 (words-length ws) ∙ ap (λ b. length_of (if b then Some (words 1) else None)) (turned party h.me)
fits (MulA x y) sizes h got to zero e u l = words-length (left_word h x ∷ right_word h y ∷ [])
fits (OutA x receiver) sizes h got to zero e u l =
    let ws : List ℕ = word h x ∷ [] in
    chosen_words (includes receiver to) (word_bytes ws) 1 (words-length ws)
fits (InB party k at) sizes h got to zero e u l =
    let vs : List ℕ = given_vector h to ∷ [] in
    chosen (party == h.me) (vectors_bytes (width h) vs) (width h) 1 (vectors-length (width h) vs)
    ∙ ap₂ (λ b v. length_of (if b then Some (vectors 1 v) else None)) (turned party h.me) e
fits (AndB x y) sizes h got to zero e u l =
    vectors-length (width h) (left_vector h x ∷ right_vector h y ∷ []) ∙ ap (λ v. 2 * vector_bytes v) e
fits (OutB x receiver) sizes h got to zero e u l =
    let vs : List ℕ = vector h x ∷ [] in
    chosen (includes receiver to) (vectors_bytes (width h) vs) (width h) 1 (vectors-length (width h) vs)
    ∙ ap (λ v. length_of (if includes receiver to then Some (vectors 1 v) else None)) e
fits (InOnline party k at m) sizes h got to r e u l = entry_fits party m (input_bits h k at) sizes h got to r e
fits (ShareAOnline party x m) sizes h got to r e u l = entry_fits party m (word_bits h x) sizes h got to r e
fits (ShareBOnline party x m) sizes h got to r e u l = entry_fits party m (vector_bits h x) sizes h got to r e
fits (BToA x) sizes h got to zero e u l = vectors-length (low h x) (covered_vector h x ∷ []) ∙ ap (λ v. 1 * vector_bytes v) l
fits (BToA x) sizes h got to (suc r) e u l = refl
fits (Garble x y m) sizes h got to zero e u l =
    vectors-length (width h) (left_mask h x ∷ right_mask h y ∷ []) ∙ ap (λ v. 2 * vector_bytes v) e
fits (Garble x y m) sizes h got to (suc zero) e u l =
    vectors-length (width h) (covered_product h x y (got 0) ∷ []) ∙ ap (λ v. 1 * vector_bytes v) e
fits (Garble x y m) sizes h got to (suc (suc zero)) e u l =
    keys_bytes-length (4 * width h * parties h) _ ∙ (table_words (width h) (parties h) ∙ ap₂ (λ v n. 8 * (8 * n * v)) e u)
fits (InA party k) sizes h got to (suc r) e u l = refl
fits (MulA x y) sizes h got to (suc r) e u l = refl
fits (OutA x receiver) sizes h got to (suc r) e u l = refl
fits (InB party k at) sizes h got to (suc r) e u l = refl
fits (AndB x y) sizes h got to (suc r) e u l = refl
fits (OutB x receiver) sizes h got to (suc r) e u l = refl
fits (Garble x y m) sizes h got to (suc (suc (suc r))) e u l = refl
fits _ sizes h got to r e u l = refl

none_there : {X : Type 0} {x : X} → None ≡ Some x → ⊥
none_there h = cc

first_of : (n from to : ℕ) → are_two n from to ≡ true → from < n
first_of n from to both = at (nat_lt from n) refl
  where
    at : (b : Bool) → nat_lt from n ≡ b → from < n
    at true e = ltb-true from n e
    at false e = let never : are_two n from to ≡ false = rw e refl in absurd (false_true (sym never ∙ both))
      where
        false_true : false ≡ true → ⊥
        false_true h = cc

gate_fits : (plan : Gates) (g r to : ℕ) (h : Hand) (got : Rounds) (o : Option Gate) → slice_get plan.gates g ≡ o → width h ≡ width_at plan.gates g → parties h ≡ plan.parties → h.plan.gates ≡ plan.gates →
    length (get_or (sends_at o h got) r silence to) ≡ length_of (unwrap_or (slice_get (messages_at plan o h.me to) r) None)
gate_fits plan g r to h got None found e u l = refl
gate_fits plan g r to h got (Some gate) found e u l =
    fits gate.kind (sizes_of plan gate) h got to r (e ∙ ap (λ o. unwrap_or (option_map (λ (x : Gate). x.width) o) 0) found) u (ap (λ gates. low_width gates gate.kind) l)

-- what a party sends has the length that the plan states, whatever it was sent
sends_by : (plan : Gates) (me : ℕ) (own : Own) (inbox : Inbox) (g r to : ℕ) (b : Bool) → are_two plan.parties me to ≡ b →
    length (party_sends plan me own inbox g r to) ≡ length_of (message plan me to g r)
sends_by plan me own inbox g r to true both =
    rw both (gate_fits plan g r to (hand_at plan me own inbox g) (before r (inbox g)) (slice_get plan.gates g) refl refl refl refl)
sends_by plan me own inbox g r to false both = rw both refl

pub sends_fit : (plan : Gates) (me : ℕ) (own : Own) (inbox : Inbox) (g r to : ℕ) →
    length (party_sends plan me own inbox g r to) ≡ length_of (message plan me to g r)
sends_fit plan me own inbox g r to = sends_by plan me own inbox g r to (are_two plan.parties me to) refl

module _ (plan : Gates) (owns : List Own) (table : Payloads) (count : length owns ≡ plan.parties) (joint : IsJoint plan owns table) where
  sent_fits : (g r from to : ℕ) (b : Bool) → are_two plan.parties from to ≡ b → (o : Option Own) → slice_get owns from ≡ o →
      length (sent_by plan from o (column table from) g r to) ≡ length_of (message plan from to g r)
  sent_fits g r from to true both None there = absurd (none_there (sym there ∙ there_is owns from nobody (subst (λ m. from < m) (sym count) (first_of plan.parties from to both))))
  sent_fits g r from to false both None there = rw both refl
  sent_fits g r from to b both (Some own) there = sends_fit plan from own (column table from) g r to

pub payloads_have_their_lengths : PayloadsHaveTheirLengths
payloads_have_their_lengths plan owns table count joint g r from to =
    ap (λ (bytes : List ℕ). length bytes) (joint g r from to)
    ∙ sent_fits plan owns table count joint g r from to (are_two plan.parties from to) refl (slice_get owns from) refl
