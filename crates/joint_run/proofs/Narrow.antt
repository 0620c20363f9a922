-- In a joint run each share of a vector, each share of a mask and all masked bits are below the width of their gate,
-- whatever the own data are. So each payload of vectors has the shape that the plan states for it.
use Rattle.std.proofs.Common.{ℕ, zero, suc, ◌≡◌, ◌<◌, ◌+◌, ◌*◌, ◌%◌, ◌^◌, Bool, true, false, cond, List, [], ◌∷◌, ◌++◌, length, take, drop, Option, Some, None, refl, sym, ◌∙◌, ap, ap₂, subst, append-nil}
use Rattle.std.specs.Prelude.{slice_get, get_or, nat_eq, nat_le, nat_lt, not, ◌==◌, ◌||◌, ◌&&◌, ◌/◌, bit_and, bit_xor, if◌then◌else◌}
use Rattle.std.specs.List.{list_any, AllByRecursion}
use Rattle.std.specs.Option.{unwrap_or}
use Rattle.std.proofs.Math.Nat.{mod-eq_of_lt, mod-lt}
use Rattle.std.proofs.Math.Seq.{take-append_seam, drop-append_seam}
use Rattle.std.proofs.lemmas.Bool.{eqb-true, eqb-false, eq-eqb, ltb-true, and_parts, lt-leb}
use Rattle.std.proofs.lemmas.Nat.{xor_lt, pow_pos}
use Rattle.byteorder.specs.Endian.{big_bytes, big_number}
use Rattle.byteorder.specs.Numbers.{big_from-bytes, length-bytes_high_first}
use Rattle.share_types.specs.Sums.{part_of_public, xor_to}
use Rattle.message_demux.specs.declared.slots.Shape.{Shape}
use Rattle.message_demux.specs.declared.slots.Shape.TheVariants.{Vectors}
use Rattle.message_demux.specs.Slots as slots
use Rattle.message_demux.specs.Slots.{vector_bytes, overflows, has_high_bits}
use Rattle.plan_gates.specs.Gate.{Kind, Gate, Given, Use, Vector, Mask, Online, vector as vector_use, mask as mask_use, online as online_use, gives, width_at, InA, MulA, OutA, InB, ConstB, XorB, XorConstB, SliceB, JoinB, AndB, OutB, KeyMask, ConstMask, XorMask, FlipMask, SliceMask, JoinMask, InOnline, ZeroOnline, XorOnline, SliceOnline, JoinOnline, Garble, EvalY, YToB, ShareAOnline, ShareBOnline, BToA}
use Rattle.plan_gates.specs.Plan.{Gates, IsPlan, IsGate, IsOperand, sizes_of}
use Rattle.plan_gates.specs.declared.message.Message.{Message}
use Rattle.plan_gates.specs.Messages.{words, vectors, messages_of, messages_at, are_two, entry_messages}
use Rattle.share_types.specs.Wires.{includes}
use Rattle.joint_run.specs.Party as party
use Rattle.joint_run.specs.Party.{Own, Value, Hand, vector_share, mask_part, active_part, Told, hand_at, wires_before, party_value, value_at, gate_value, sends_at, gate_sends, before, silence, opened_vector, Rounds}
use Rattle.joint_run.specs.Joint.{Payloads, column, IsJoint}
use Rattle.joint_run.specs.Honest.{own_at}
use Rattle.joint_run.specs.Laws.{PayloadsHaveTheirShapes}
use Rattle.joint_run.specs.Payload.{vectors_bytes, vector_in}
use Rattle.joint_run.proofs.Bytes.{fits_bytes}
use Rattle.joint_run.proofs.Causal.{strong}
use Rattle.joint_run.proofs.Sharing.{choose, short_vector, and_small, join_small, vector_first, vector_second}
use Rattle.joint_run.proofs.Run.{wire_is, sent, wide_is}
use Rattle.bmr_keys.proofs.Labels.{number-each_below}
use Rattle.bmr_garble.specs.Product.{key_bit_at}
use Rattle.bmr_eval.specs.Active.{result_key}
use Rattle.share_types.specs.Keys.{bit}
use Rattle.boolean_gmw.specs.Shares.{closed_share}
use Rattle.boolean_gmw.proofs.Xors.{xor_small}
use Rattle.mot_base.proofs.Lists.{equal_turned as turned}

-- ---- the bytes of narrow vectors

one_fits : (w v : ℕ) (rest : List ℕ) → v < 2 ^ w → overflows w (take (vector_bytes w) (big_bytes (vector_bytes w) v ++ rest)) ≡ false
one_fits w v rest small =
    let size = vector_bytes w in
    let first : take size (big_bytes size v ++ rest) ≡ big_bytes size v =
    ap (λ k. take k (big_bytes size v ++ rest)) (sym (length-bytes_high_first size v)) ∙ take-append_seam (big_bytes size v) rest in
    let number : big_number size (big_bytes size v) ≡ v =
    ap (big_number size) (sym (append-nil (big_bytes size v))) ∙ (big_from-bytes size v [] ∙ mod-eq_of_lt (fits_bytes w v small)) in
    ap (λ bytes. nat_le (2 ^ w) (big_number size bytes)) first ∙ (ap (nat_le (2 ^ w)) number ∙ lt-leb (2 ^ w) v small)

none_high : (w : ℕ) (vs : List ℕ) → AllByRecursion (λ v. v < 2 ^ w) vs →
    list_any (overflows w) (slots.vectors (length vs) (vector_bytes w) (vectors_bytes w vs)) ≡ false
none_high w [] small = refl
none_high w (v ∷ vs) small =
    let size = vector_bytes w in
    let rest = vectors_bytes w vs in
    let behind : drop size (big_bytes size v ++ rest) ≡ rest =
    ap (λ k. drop k (big_bytes size v ++ rest)) (sym (length-bytes_high_first size v)) ∙ drop-append_seam (big_bytes size v) rest in
    ap₂ (λ (a b : Bool). a || b) (one_fits w v rest small.0)
    (ap (λ bytes. list_any (overflows w) (slots.vectors (length vs) size bytes)) behind ∙ none_high w vs small.1)

same_message : (k m : Message) → Some k ≡ Some m → m.shape ≡ k.shape
same_message k m e = ap (λ (o : Option Message). shape_of o) (sym e)
  where
    shape_of : Option Message → Shape
    shape_of None = k.shape
    shape_of (Some message) = message.shape

words_shaped : (b : Bool) (count : ℕ) (m : Message) (bytes : List ℕ) → (if b then Some (words count) else None) ≡ Some m →
    has_high_bits m.shape bytes ≡ false
words_shaped true count m bytes e = ap (λ shape. has_high_bits shape bytes) (same_message (words count) m e)
words_shaped false count m bytes e = cc

vectors_shaped : (b : Bool) (w width count : ℕ) (vs : List ℕ) (m : Message) (bytes : List ℕ) → w ≡ width → length vs ≡ count →
    AllByRecursion (λ v. v < 2 ^ w) vs → bytes ≡ cond b (vectors_bytes w vs) [] →
    (if b then Some (vectors count width) else None) ≡ Some m → has_high_bits m.shape bytes ≡ false
vectors_shaped true w width count vs m bytes same many small is e =
    ap (λ shape. has_high_bits shape bytes) (same_message (vectors count width) m e)
    ∙ (ap (λ b. has_high_bits (Vectors count width) b) is
    ∙ (ap₂ (λ k v. has_high_bits (Vectors k v) (vectors_bytes w vs)) (sym many) (sym same) ∙ none_high w vs small))
vectors_shaped false w width count vs m bytes same many small is e = cc

two_parts : (n from to : ℕ) → are_two n from to ≡ true → (from < n) × (to < n) × (from ≡ to → ⊥)
two_parts n from to both =
    let ranges = and_parts (nat_lt from n && nat_lt to n) (not (from == to)) both in
    let each = and_parts (nat_lt from n) (nat_lt to n) ranges.0 in
    (ltb-true from n each.0, ltb-true to n each.1, eqb-false from to (not_true (from == to) ranges.1))
  where
    not_true : (b : Bool) → not b ≡ true → b ≡ false
    not_true false e = refl
    not_true true e = cc

-- ---- shares

-- the vector of a value: a share, that of a mask, or the masked bits
abbrev pub bits_in : ℕ → Given → Value → ℕ
bits_in n Vector v = vector_share v
bits_in n Mask v = (mask_part n v).mask
bits_in n Online v = (active_part n v).masked
bits_in n _ v = 0

-- ---- entries: a party enters what it makes of what it has at hand

pub record Enters (kind : Kind) (owner m : ℕ) (value : Hand → ℕ) : Type 0 where
  pub small : (h : Hand) → value h < 2 ^ party.width h
  pub sends : (h : Hand) (got : Rounds) → gate_sends kind h got ≡ party.entry_sends h owner m (value h) got
  pub gives : (h : Hand) (got : Rounds) → gate_value kind h got ≡ party.online_value h (party.entered h owner m (value h) got)

-- of an input, and of its share of a word or of a vector
pub enters_input : (owner k low m : ℕ) → Enters (InOnline owner k low m) owner m (λ h. party.input_bits h k low)
enters_input owner k low m =
    record { small = λ h. mod-lt (party.input h k / 2 ^ low) (pow_pos (party.width h)); sends = λ h got. refl; gives = λ h got. refl }

pub enters_share : (owner x m : ℕ) → Enters (ShareAOnline owner x m) owner m (λ h. party.word_bits h x)
enters_share owner x m = record { small = λ h. mod-lt (party.word h x) (pow_pos (party.width h)); sends = λ h got. refl; gives = λ h got. refl }

pub enters_bits : (owner x m : ℕ) → Enters (ShareBOnline owner x m) owner m (λ h. party.vector_bits h x)
enters_bits owner x m = record { small = λ h. mod-lt (party.vector h x) (pow_pos (party.width h)); sends = λ h got. refl; gives = λ h got. refl }

module _ (plan : Gates) (owns : List Own) (table : Payloads) (valid : IsPlan plan) (each : length owns ≡ plan.parties) (joint : IsJoint plan owns table) where
  abbrev n : ℕ
  n = plan.parties

  abbrev own : ℕ → Own
  own p = own_at owns p

  abbrev at : ℕ → ℕ → Hand
  at g p = hand_at plan p (own p) (column table p) g

  abbrev value : ℕ → ℕ → Value
  value g p = party_value plan p (own p) (column table p) g

  abbrev wide : ℕ → ℕ
  wide g = width_at plan.gates g

  -- what one party is sent by another
  sent_in : (g r p q : ℕ) (gate : Gate) → p < n → q < n → (q ≡ p → ⊥) → slice_get plan.gates g ≡ Some gate →
      table g r q p ≡ get_or (gate_sends gate.kind (at g q) (before r (column table q g))) r silence p
  sent_in g r p q gate = sent plan owns table each joint g r p q gate

  abbrev AreSmall : ℕ → (ℕ → ℕ) → Type 0
  AreSmall g f = (p : ℕ) → p < n → f p < 2 ^ wide g

  abbrev IsNarrow : ℕ → Type 0
  IsNarrow g = (here : Gate) → slice_get plan.gates g ≡ Some here → AreSmall g (λ p. bits_in n (gives here.kind) (value g p))

  abbrev AreNarrow : ℕ → Type 0
  AreNarrow g = (k : ℕ) → k < g → IsNarrow k

  -- what stands at an operand's place
  abbrev there : ℕ → ℕ → ℕ → Value
  there g p x = get_or (at g p).wires x (Told None)

  operand : (g : ℕ) (used : Use) → AreNarrow g → IsOperand plan.gates g used → (p : ℕ) → p < n → bits_in n used.given (there g p used.gate) < 2 ^ wide used.gate
  operand g used ih (less, earlier, found, is) p h =
      subst (λ v. bits_in n used.given v < 2 ^ wide used.gate) (sym (wire_is plan owns table each joint g used.gate p less))
      (subst (λ given. bits_in n given (value used.gate p) < 2 ^ wide used.gate) is (ih used.gate less earlier found p h))

  -- an operand as wide as its gate
  fitting : (g : ℕ) (used : Use) (width : ℕ) (kind : Kind) → AreNarrow g → slice_get plan.gates g ≡ Some (record { kind = kind; width = width }) →
      IsOperand plan.gates g used → wide used.gate ≡ width → AreSmall g (λ p. bits_in n used.given (there g p used.gate))
  fitting g used width kind ih found is fit p h =
      let same : wide used.gate ≡ wide g = fit ∙ sym (wide_is plan g (record { kind = kind; width = width }) found) in
      subst (λ w. bits_in n used.given (there g p used.gate) < 2 ^ w) same (operand g used ih is p h)

  constant_small : (g c width : ℕ) (kind : Kind) → slice_get plan.gates g ≡ Some (record { kind = kind; width = width }) → c < 2 ^ width → c < 2 ^ wide g
  constant_small g c width kind found small = subst (λ w. c < 2 ^ w) (sym (wide_is plan g (record { kind = kind; width = width }) found)) small

  public_small : (g c p : ℕ) → c < 2 ^ wide g → part_of_public p c < 2 ^ wide g
  public_small g c p small = choose (wide g) (nat_eq p 0) c 0 small (pow_pos (wide g))

  -- what a party opens of parts that are small
  opened_small : (g p part : ℕ) (heard : ℕ → ℕ) → part < 2 ^ wide g → ((q : ℕ) → q < n → (q ≡ p → ⊥) → heard q < 2 ^ wide g) →
      xor_to n (λ q. if q == p then part else heard q) < 2 ^ wide g
  opened_small g p part heard own_small others = xor_small n (wide g) (λ q. if q == p then part else heard q) (λ q h. by q h (q == p) refl)
    where
      by : (q : ℕ) → q < n → (b : Bool) → (q == p) ≡ b → cond b part (heard q) < 2 ^ wide g
      by q h true e = own_small
      by q h false e = others q h (eqb-false q p e)

  -- inputs
  given_small : (g q to : ℕ) → party.given_vector (at g q) to < 2 ^ wide g
  given_small g q to = mod-lt (party.given_word (at g q) to) (pow_pos (wide g))

  kept_small : (g p k low : ℕ) → party.kept_vector (at g p) k low < 2 ^ wide g
  kept_small g p k low =
      xor_lt (wide g) (party.input (at g p) k / 2 ^ low % 2 ^ wide g) (xor_to n (λ q. if q == p then 0 else party.given_vector (at g p) q))
      (mod-lt (party.input (at g p) k / 2 ^ low) (pow_pos (wide g)))
      (xor_small n (wide g) (λ q. if q == p then 0 else party.given_vector (at g p) q)
      (λ q h. choose (wide g) (q == p) 0 (party.given_vector (at g p) q) (pow_pos (wide g)) (given_small g p q)))

  input_small : (g k low owner width p : ℕ) → p < n → owner < n → slice_get plan.gates g ≡ Some (record { kind = InB owner k low; width = width }) →
      (b : Bool) → (owner == p) ≡ b → cond b (party.kept_vector (at g p) k low) (vector_in (wide g) (table g 0 owner p) 0) < 2 ^ wide g
  input_small g k low owner width p h inside found true e = kept_small g p k low
  input_small g k low owner width p h inside found false e =
      let bytes : table g 0 owner p ≡ vectors_bytes (wide g) (party.given_vector (at g owner) p ∷ []) =
      sent_in g 0 p owner (record { kind = InB owner k low; width = width }) h inside (eqb-false owner p e) found
      ∙ ap (λ me. if me then vectors_bytes (wide g) (party.given_vector (at g owner) p ∷ []) else []) (eq-eqb owner owner refl) in
      let is : vector_in (wide g) (table g 0 owner p) 0 ≡ party.given_vector (at g owner) p =
      ap (λ b. vector_in (wide g) b 0) bytes ∙ vector_first (wide g) (party.given_vector (at g owner) p) [] (given_small g owner p) in
      subst (λ v. v < 2 ^ wide g) (sym is) (given_small g owner p)

  -- ANDs
  bits_small : (g bit p : ℕ) → party.bits_of (at g p) bit < 2 ^ wide g
  bits_small g bit p = short_vector bit (wide g) (drop (party.first (at g p)).bit (own p).part.bits)

  left_small : (g x : ℕ) → AreSmall g (λ p. party.vector (at g p) x) → AreSmall g (λ p. party.left_vector (at g p) x)
  left_small g x small p h = xor_lt (wide g) (party.vector (at g p) x) (party.bits_of (at g p) 0) (small p h) (bits_small g 0 p)

  right_small : (g y : ℕ) → AreSmall g (λ p. party.vector (at g p) y) → AreSmall g (λ p. party.right_vector (at g p) y)
  right_small g y small p h = xor_lt (wide g) (party.vector (at g p) y) (party.bits_of (at g p) 1) (small p h) (bits_small g 1 p)

  closed_small : (g d e p : ℕ) → d < 2 ^ wide g → e < 2 ^ wide g → closed_share p (party.bit_triple (at g p)) d e < 2 ^ wide g
  closed_small g d e p d_small e_small =
      let w = wide g in
      let a = party.bits_of (at g p) 0 in
      let b = party.bits_of (at g p) 1 in
      let c = party.bits_of (at g p) 2 in
      xor_lt w (bit_xor (bit_xor c (bit_and d b)) (bit_and e a)) (part_of_public p (bit_and d e))
      (xor_lt w (bit_xor c (bit_and d b)) (bit_and e a)
      (xor_lt w c (bit_and d b) (bits_small g 2 p) (and_small w d b d_small)) (and_small w e a e_small))
      (public_small g (bit_and d e) p (and_small w d e d_small))

  -- what a party closes an AND with is small, where d and e are opened of parts that are small
  opened_pair_small : (g p : ℕ) (left right : ℕ → ℕ) → p < n → AreSmall g left → AreSmall g right →
      ((q : ℕ) → q < n → (q ≡ p → ⊥) → table g 0 q p ≡ vectors_bytes (wide g) (left q ∷ right q ∷ [])) →
      closed_share p (party.bit_triple (at g p)) (opened_vector (at g p) (left p) (λ q. table g 0 q p) 0) (opened_vector (at g p) (right p) (λ q. table g 0 q p) 1) < 2 ^ wide g
  opened_pair_small g p left right h small_left small_right bytes =
      let firsts : (q : ℕ) → q < n → (q ≡ p → ⊥) → vector_in (wide g) (table g 0 q p) 0 < 2 ^ wide g =
      λ q b apart. subst (λ v. v < 2 ^ wide g)
      (sym (ap (λ s. vector_in (wide g) s 0) (bytes q b apart) ∙ vector_first (wide g) (left q) (right q ∷ []) (small_left q b)))
      (small_left q b) in
      let seconds : (q : ℕ) → q < n → (q ≡ p → ⊥) → vector_in (wide g) (table g 0 q p) 1 < 2 ^ wide g =
      λ q b apart. subst (λ v. v < 2 ^ wide g)
      (sym (ap (λ s. vector_in (wide g) s 1) (bytes q b apart) ∙ vector_second (wide g) (left q) (right q) [] (small_right q b)))
      (small_right q b) in
      closed_small g (opened_vector (at g p) (left p) (λ q. table g 0 q p) 0) (opened_vector (at g p) (right p) (λ q. table g 0 q p) 1) p
      (opened_small g p (left p) (λ q. vector_in (wide g) (table g 0 q p) 0) (small_left p h) firsts)
      (opened_small g p (right p) (λ q. vector_in (wide g) (table g 0 q p) 1) (small_right p h) seconds)

  and_vector_small : (g x y width : ℕ) → slice_get plan.gates g ≡ Some (record { kind = AndB x y; width = width }) →
      AreSmall g (λ p. party.vector (at g p) x) → AreSmall g (λ p. party.vector (at g p) y) →
      AreSmall g (λ p. party.conjunction (at g p) x y (λ q. table g 0 q p))
  and_vector_small g x y width found small_x small_y p h =
      opened_pair_small g p (λ q. party.left_vector (at g q) x) (λ q. party.right_vector (at g q) y) h (left_small g x small_x) (right_small g y small_y)
      (λ q b apart. sent_in g 0 p q (record { kind = AndB x y; width = width }) h b apart found)

  -- garbled tables
  pub mask_left_small : (g u : ℕ) → AreSmall g (λ p. (party.mask (at g p) u).mask) → AreSmall g (λ p. party.left_mask (at g p) u)
  mask_left_small g u small p h = xor_lt (wide g) (party.mask (at g p) u).mask (party.bits_of (at g p) 0) (small p h) (bits_small g 0 p)

  pub mask_right_small : (g v : ℕ) → AreSmall g (λ p. (party.mask (at g p) v).mask) → AreSmall g (λ p. party.right_mask (at g p) v)
  mask_right_small g v small p h = xor_lt (wide g) (party.mask (at g p) v).mask (party.bits_of (at g p) 1) (small p h) (bits_small g 1 p)

  fresh_small : (g p : ℕ) → (party.fresh (at g p)).mask < 2 ^ wide g
  fresh_small g p = number-each_below (wide g) (λ i. (key_bit_at (own p).part.keys ((party.first (at g p)).key + i)).bit)

  pub covered_small : (g u v m width : ℕ) → slice_get plan.gates g ≡ Some (record { kind = Garble u v m; width = width }) →
      AreSmall g (λ p. (party.mask (at g p) u).mask) → AreSmall g (λ p. (party.mask (at g p) v).mask) →
      AreSmall g (λ p. party.covered_product (at g p) u v (λ q. table g 0 q p))
  covered_small g u v m width found small_u small_v p h =
      xor_lt (wide g) (party.mask_product (at g p) u v (λ q. table g 0 q p)) (party.fresh (at g p)).mask
      (opened_pair_small g p (λ q. party.left_mask (at g q) u) (λ q. party.right_mask (at g q) v) h (mask_left_small g u small_u) (mask_right_small g v small_v)
      (λ q b apart. sent_in g 0 p q (record { kind = Garble u v m; width = width }) h b apart found))
      (fresh_small g p)

  -- entries
  abbrev masked_by : ℕ → ℕ → ℕ → (Hand → ℕ) → ℕ
  masked_by g p m value = party.masked_by_owner (at g p) m (value (at g p)) (λ q. table g 0 q p)

  module _ (g owner m width : ℕ) (kind : Kind) (value : Hand → ℕ) (enters : Enters kind owner m value) (inside : owner < n) (found : slice_get plan.gates g ≡ Some (record { kind = kind; width = width }))
      (small : AreSmall g (λ p. (party.mask (at g p) m).mask)) where
    entry_sent : (r p q : ℕ) → p < n → q < n → (q ≡ p → ⊥) → table g r q p ≡ get_or (party.entry_sends (at g q) owner m (value (at g q)) (before r (column table q g))) r silence p
    entry_sent r p q a b apart =
        sent_in g r p q (record { kind = kind; width = width }) a b apart found
        ∙ ap (λ sends. get_or sends r silence p) (enters.sends (at g q) (before r (column table q g)))

    pub owner_masks : masked_by g owner m value < 2 ^ wide g
    owner_masks =
        let masks : ℕ → ℕ = λ q. (party.mask (at g q) m).mask in
        let bytes : (q : ℕ) → q < n → (q ≡ owner → ⊥) → table g 0 q owner ≡ vectors_bytes (wide g) (masks q ∷ []) =
        λ q b apart. entry_sent 0 owner q inside b apart
        ∙ ap (λ me. if me then vectors_bytes (wide g) (masks q ∷ []) else []) (eq-eqb owner owner refl) in
        xor_lt (wide g) (value (at g owner)) (opened_vector (at g owner) (masks owner) (λ q. table g 0 q owner) 0)
        (enters.small (at g owner))
        (opened_small g owner (masks owner) (λ q. vector_in (wide g) (table g 0 q owner) 0) (small owner inside)
        (λ q b apart. subst (λ v. v < 2 ^ wide g)
        (sym (ap (λ s. vector_in (wide g) s 0) (bytes q b apart) ∙ vector_first (wide g) (masks q) [] (small q b)))
        (small q b)))

    entry_small : (p : ℕ) → p < n → (b : Bool) → (p == owner) ≡ b →
        vector_in (wide g) (cond b (vectors_bytes (wide g) (masked_by g p m value ∷ [])) (table g 1 owner p)) 0 < 2 ^ wide g
    entry_small p h true e =
        let t_small = subst (λ q. masked_by g q m value < 2 ^ wide g) (sym (eqb-true p owner e)) owner_masks in
        subst (λ v. v < 2 ^ wide g) (sym (vector_first (wide g) (masked_by g p m value) [] t_small)) t_small
    entry_small p h false e =
        let t = masked_by g owner m value in
        let bytes : table g 1 owner p ≡ vectors_bytes (wide g) (t ∷ []) =
        entry_sent 1 p owner h inside (λ is. eqb-false p owner e (sym is))
        ∙ ap (λ me. if me then vectors_bytes (wide g) (t ∷ []) else []) (eq-eqb owner owner refl) in
        subst (λ v. v < 2 ^ wide g) (sym (ap (λ s. vector_in (wide g) s 0) bytes ∙ vector_first (wide g) t [] owner_masks)) owner_masks

  -- all gates
  joined_small : (g x y : ℕ) (a b : ℕ) → wide g ≡ wide x + wide y → a < 2 ^ wide x → b < 2 ^ wide y → a + 2 ^ wide x * b < 2 ^ wide g
  joined_small g x y a b both p q = subst (λ w. a + 2 ^ wide x * b < 2 ^ w) (sym both) (join_small (wide x) (wide y) a b p q)

  value_small : (g : ℕ) (kind : Kind) (width : ℕ) → AreNarrow g → slice_get plan.gates g ≡ Some (record { kind = kind; width = width }) →
      IsGate plan g (record { kind = kind; width = width }) →
      AreSmall g (λ p. bits_in n (gives kind) (gate_value kind (at g p) (column table p g)))
  value_small g (InB owner k low) width ih found is p h = input_small g k low owner width p h is.party found (owner == p) refl
  value_small g (ConstB c) width ih found is p h = public_small g c p (constant_small g c width (ConstB c) found is.small)
  value_small g (XorB x y) width ih found is p h =
      xor_lt (wide g) (party.vector (at g p) x) (party.vector (at g p) y)
      (fitting g (vector_use x) width (XorB x y) ih found is.uses.0 is.fit.0 p h) (fitting g (vector_use y) width (XorB x y) ih found is.uses.1.0 is.fit.1.0 p h)
  value_small g (XorConstB x c) width ih found is p h =
      xor_lt (wide g) (party.vector (at g p) x) (part_of_public p c) (fitting g (vector_use x) width (XorConstB x c) ih found is.uses.0 is.fit.0 p h)
      (public_small g c p (constant_small g c width (XorConstB x c) found is.small))
  value_small g (SliceB x low) width ih found is p h = mod-lt (party.vector (at g p) x / 2 ^ low) (pow_pos (wide g))
  value_small g (JoinB x y) width ih found is p h =
      joined_small g x y (party.vector (at g p) x) (party.vector (at g p) y) (wide_is plan g (record { kind = JoinB x y; width = width }) found ∙ is.fit)
      (operand g (vector_use x) ih is.uses.0 p h) (operand g (vector_use y) ih is.uses.1.0 p h)
  value_small g (AndB x y) width ih found is p h =
      and_vector_small g x y width found
      (fitting g (vector_use x) width (AndB x y) ih found is.uses.0 is.fit.0) (fitting g (vector_use y) width (AndB x y) ih found is.uses.1.0 is.fit.1.0) p h
  value_small g KeyMask width ih found is p h = fresh_small g p
  value_small g (ConstMask c) width ih found is p h = public_small g c p (constant_small g c width (ConstMask c) found is.small)
  value_small g (XorMask u v) width ih found is p h =
      xor_lt (wide g) (party.mask (at g p) u).mask (party.mask (at g p) v).mask
      (fitting g (mask_use u) width (XorMask u v) ih found is.uses.0 is.fit.0 p h) (fitting g (mask_use v) width (XorMask u v) ih found is.uses.1.0 is.fit.1.0 p h)
  value_small g (FlipMask u c) width ih found is p h =
      xor_lt (wide g) (party.mask (at g p) u).mask (part_of_public p c) (fitting g (mask_use u) width (FlipMask u c) ih found is.uses.0 is.fit.0 p h)
      (public_small g c p (constant_small g c width (FlipMask u c) found is.small))
  value_small g (SliceMask u low) width ih found is p h = mod-lt ((party.mask (at g p) u).mask / 2 ^ low) (pow_pos (wide g))
  value_small g (JoinMask u v) width ih found is p h =
      joined_small g u v ((party.mask (at g p) u).mask % 2 ^ wide u) (party.mask (at g p) v).mask (wide_is plan g (record { kind = JoinMask u v; width = width }) found ∙ is.fit)
      (mod-lt (party.mask (at g p) u).mask (pow_pos (wide u))) (operand g (mask_use v) ih is.uses.1.0 p h)
  value_small g (InOnline owner k low m) width ih found is p h =
      entry_small g owner m width (InOnline owner k low m) (λ h. party.input_bits h k low) (enters_input owner k low m) is.party found
      (fitting g (mask_use m) width (InOnline owner k low m) ih found is.uses.0 is.fit.0) p h (p == owner) refl
  value_small g (ShareAOnline owner x m) width ih found is p h =
      entry_small g owner m width (ShareAOnline owner x m) (λ h. party.word_bits h x) (enters_share owner x m) is.party found
      (fitting g (mask_use m) width (ShareAOnline owner x m) ih found is.uses.1.0 is.fit.1.0) p h (p == owner) refl
  value_small g (ShareBOnline owner x m) width ih found is p h =
      entry_small g owner m width (ShareBOnline owner x m) (λ h. party.vector_bits h x) (enters_bits owner x m) is.party found
      (fitting g (mask_use m) width (ShareBOnline owner x m) ih found is.uses.1.0 is.fit.1.0) p h (p == owner) refl
  value_small g ZeroOnline width ih found is p h = pow_pos (wide g)
  value_small g (XorOnline u v) width ih found is p h =
      xor_lt (wide g) (party.online (at g p) u).masked (party.online (at g p) v).masked
      (fitting g (online_use u) width (XorOnline u v) ih found is.uses.0 is.fit.0 p h) (fitting g (online_use v) width (XorOnline u v) ih found is.uses.1.0 is.fit.1.0 p h)
  value_small g (SliceOnline u low) width ih found is p h = mod-lt ((party.online (at g p) u).masked / 2 ^ low) (pow_pos (wide g))
  value_small g (JoinOnline u v) width ih found is p h =
      joined_small g u v ((party.online (at g p) u).masked % 2 ^ wide u) (party.online (at g p) v).masked (wide_is plan g (record { kind = JoinOnline u v; width = width }) found ∙ is.fit)
      (mod-lt (party.online (at g p) u).masked (pow_pos (wide u))) (operand g (online_use v) ih is.uses.1.0 p h)
  value_small g (EvalY t u v) width ih found is p h =
      number-each_below (wide g) (λ i. bit (result_key n (party.table (at g p) t) t (party.online (at g p) u) (party.online (at g p) v) i 0) 0)
  value_small g (YToB m o) width ih found is p h =
      xor_lt (wide g) (party.mask (at g p) m).mask (part_of_public p (party.online (at g p) o).masked)
      (fitting g (mask_use m) width (YToB m o) ih found is.uses.0 is.fit.0 p h)
      (public_small g (party.online (at g p) o).masked p (fitting g (online_use o) width (YToB m o) ih found is.uses.1.0 is.fit.1.0 p h))
  value_small g _ width ih found is p h = pow_pos (wide g)

  pub narrow : (g : ℕ) → IsNarrow g
  narrow = strong IsNarrow (λ g ih here found p h.
      subst (λ v. bits_in n (gives here.kind) v < 2 ^ wide g) (sym (ap (λ o. value_at o (at g p) (column table p g)) found))
      (value_small g here.kind here.width ih found (valid.each g here found) p h))

  pub operand_narrow : (g : ℕ) (used : Use) → IsOperand plan.gates g used → (p : ℕ) → p < n → bits_in n used.given (there g p used.gate) < 2 ^ wide used.gate
  operand_narrow g used is = operand g used (λ k less. narrow k) is

  -- ---- payloads

  module _ (g owner o width : ℕ) (kind : Kind) (value : Hand → ℕ) (enters : Enters kind owner o value) (inside : owner < n) (found : slice_get plan.gates g ≡ Some (record { kind = kind; width = width }))
      (small : AreSmall g (λ p. (party.mask (at g p) o).mask)) where
    entry_shaped : (r from to : ℕ) → from < n → to < n → (from ≡ to → ⊥) → (m : Message) →
        unwrap_or (slice_get (entry_messages owner width from to) r) None ≡ Some m → has_high_bits m.shape (table g r from to) ≡ false
    entry_shaped zero from to a b apart m e =
        let vs : List ℕ = (party.mask (at g from) o).mask ∷ [] in
        vectors_shaped (to == owner) (wide g) width 1 vs m (table g 0 from to) (wide_is plan g (record { kind = kind; width = width }) found) refl
        (small from a, tt)
        (entry_sent g owner o width kind value enters inside found small 0 to from b a apart) e
    entry_shaped (suc zero) from to a b apart m e = told_by (from == owner) refl e
      where
        told_by : (c : Bool) → (from == owner) ≡ c → (if c then Some (vectors 1 width) else None) ≡ Some m → has_high_bits m.shape (table g 1 from to) ≡ false
        told_by true is e =
            let vs : List ℕ = masked_by g from o value ∷ [] in
            let t_small = owner_masks g owner o width kind value enters inside found small in
            vectors_shaped true (wide g) width 1 vs m (table g 1 from to) (wide_is plan g (record { kind = kind; width = width }) found) refl
            (subst (λ q. masked_by g q o value < 2 ^ wide g) (sym (eqb-true from owner is)) t_small, tt)
            (entry_sent g owner o width kind value enters inside found small 1 to from b a apart ∙ ap (λ me. if me then vectors_bytes (wide g) vs else []) is) e
        told_by false is e = cc
    entry_shaped (suc (suc zero)) from to a b apart m e = words_shaped true (2 * width) m (table g 2 from to) e
    entry_shaped (suc (suc (suc r))) from to a b apart m e = cc

  kind_shaped : (g r from to : ℕ) (kind : Kind) (width : ℕ) → from < n → to < n → (from ≡ to → ⊥) →
      slice_get plan.gates g ≡ Some (record { kind = kind; width = width }) → (m : Message) →
      unwrap_or (slice_get (messages_of kind (sizes_of plan (record { kind = kind; width = width })) from to) r) None ≡ Some m → has_high_bits m.shape (table g r from to) ≡ false
  kind_shaped g zero from to (InA owner k) width a b apart found m e = words_shaped (from == owner) 1 m (table g 0 from to) e
  kind_shaped g zero from to (MulA x y) width a b apart found m e = words_shaped true 2 m (table g 0 from to) e
  kind_shaped g zero from to (OutA x receiver) width a b apart found m e = words_shaped (includes receiver to) 1 m (table g 0 from to) e
  kind_shaped g zero from to (InB owner k low) width a b apart found m e =
      let vs : List ℕ = party.given_vector (at g from) to ∷ [] in
      let bytes : table g 0 from to ≡ cond (from == owner) (vectors_bytes (wide g) vs) [] =
      sent_in g 0 to from (record { kind = InB owner k low; width = width }) b a apart found
      ∙ ap (λ me. if me then vectors_bytes (wide g) vs else []) (turned owner from) in
      vectors_shaped (from == owner) (wide g) width 1 vs m (table g 0 from to)
      (wide_is plan g (record { kind = InB owner k low; width = width }) found) refl (given_small g from to, tt) bytes e
  kind_shaped g zero from to (AndB x y) width a b apart found m e =
      let vs : List ℕ = party.left_vector (at g from) x ∷ party.right_vector (at g from) y ∷ [] in
      let is = valid.each g (record { kind = AndB x y; width = width }) found in
      vectors_shaped true (wide g) width 2 vs m (table g 0 from to) (wide_is plan g (record { kind = AndB x y; width = width }) found) refl (
        left_small g x (fitting g (vector_use x) width (AndB x y) (λ k less. narrow k) found is.uses.0 is.fit.0) from a,
        (right_small g y (fitting g (vector_use y) width (AndB x y) (λ k less. narrow k) found is.uses.1.0 is.fit.1.0) from a, tt),
      )
      (sent_in g 0 to from (record { kind = AndB x y; width = width }) b a apart found) e
  kind_shaped g zero from to (OutB x receiver) width a b apart found m e =
      let vs : List ℕ = party.vector (at g from) x ∷ [] in
      let is = valid.each g (record { kind = OutB x receiver; width = width }) found in
      vectors_shaped (includes receiver to) (wide g) width 1 vs m (table g 0 from to)
      (wide_is plan g (record { kind = OutB x receiver; width = width }) found) refl
      (fitting g (vector_use x) width (OutB x receiver) (λ k less. narrow k) found is.uses.0 is.fit.0 from a, tt)
      (sent_in g 0 to from (record { kind = OutB x receiver; width = width }) b a apart found) e
  kind_shaped g (suc r) from to (InA owner k) width a b apart found m e = cc
  kind_shaped g (suc r) from to (MulA x y) width a b apart found m e = cc
  kind_shaped g (suc r) from to (OutA x receiver) width a b apart found m e = cc
  kind_shaped g (suc r) from to (InB owner k low) width a b apart found m e = cc
  kind_shaped g (suc r) from to (AndB x y) width a b apart found m e = cc
  kind_shaped g (suc r) from to (OutB x receiver) width a b apart found m e = cc
  kind_shaped g r from to (InOnline owner k low o) width a b apart found m e =
      let is = valid.each g (record { kind = InOnline owner k low o; width = width }) found in
      entry_shaped g owner o width (InOnline owner k low o) (λ h. party.input_bits h k low) (enters_input owner k low o) is.party found
      (fitting g (mask_use o) width (InOnline owner k low o) (λ k less. narrow k) found is.uses.0 is.fit.0) r from to a b apart m e
  kind_shaped g r from to (ShareAOnline owner x o) width a b apart found m e =
      let is = valid.each g (record { kind = ShareAOnline owner x o; width = width }) found in
      entry_shaped g owner o width (ShareAOnline owner x o) (λ h. party.word_bits h x) (enters_share owner x o) is.party found
      (fitting g (mask_use o) width (ShareAOnline owner x o) (λ k less. narrow k) found is.uses.1.0 is.fit.1.0) r from to a b apart m e
  kind_shaped g r from to (ShareBOnline owner x o) width a b apart found m e =
      let is = valid.each g (record { kind = ShareBOnline owner x o; width = width }) found in
      entry_shaped g owner o width (ShareBOnline owner x o) (λ h. party.vector_bits h x) (enters_bits owner x o) is.party found
      (fitting g (mask_use o) width (ShareBOnline owner x o) (λ k less. narrow k) found is.uses.1.0 is.fit.1.0) r from to a b apart m e
  kind_shaped g zero from to (BToA x) width a b apart found m e =
      let is = valid.each g (record { kind = BToA x; width = width }) found in
      let vs : List ℕ = party.covered_vector (at g from) x ∷ [] in
      vectors_shaped true (wide x) (wide x) 1 vs m (table g 0 from to) refl refl (
        xor_lt (wide x) (party.vector (at g from) x) _ (operand g (vector_use x) (λ k less. narrow k) is.uses.0 from a)
            (number-each_below (wide x) (λ i. (party.shared_bit (at g from) i).bit)),
        tt,
      )
      (sent_in g 0 to from (record { kind = BToA x; width = width }) b a apart found) e
  kind_shaped g (suc r) from to (BToA x) width a b apart found m e = cc
  kind_shaped g zero from to (Garble u v w) width a b apart found m e =
      let vs : List ℕ = party.left_mask (at g from) u ∷ party.right_mask (at g from) v ∷ [] in
      let is = valid.each g (record { kind = Garble u v w; width = width }) found in
      vectors_shaped true (wide g) width 2 vs m (table g 0 from to) (wide_is plan g (record { kind = Garble u v w; width = width }) found) refl (
        mask_left_small g u (fitting g (mask_use u) width (Garble u v w) (λ k less. narrow k) found is.uses.0 is.fit.0) from a,
        (mask_right_small g v (fitting g (mask_use v) width (Garble u v w) (λ k less. narrow k) found is.uses.1.0 is.fit.1.0) from a, tt),
      )
      (sent_in g 0 to from (record { kind = Garble u v w; width = width }) b a apart found) e
  kind_shaped g (suc zero) from to (Garble u v w) width a b apart found m e =
      let vs : List ℕ = party.covered_product (at g from) u v (λ q. table g 0 q from) ∷ [] in
      let is = valid.each g (record { kind = Garble u v w; width = width }) found in
      vectors_shaped true (wide g) width 1 vs m (table g 1 from to) (wide_is plan g (record { kind = Garble u v w; width = width }) found) refl (
        covered_small g u v w width found (fitting g (mask_use u) width (Garble u v w) (λ k less. narrow k) found is.uses.0 is.fit.0)
            (fitting g (mask_use v) width (Garble u v w) (λ k less. narrow k) found is.uses.1.0 is.fit.1.0) from a,
        tt,
      )
      (sent_in g 1 to from (record { kind = Garble u v w; width = width }) b a apart found) e
  kind_shaped g (suc (suc zero)) from to (Garble u v w) width a b apart found m e = words_shaped true (8 * n * width) m (table g 2 from to) e
  kind_shaped g r from to _ width a b apart found m e = cc

  gate_shaped : (g r from to : ℕ) (o : Option Gate) → slice_get plan.gates g ≡ o → from < n → to < n → (from ≡ to → ⊥) → (m : Message) →
      unwrap_or (slice_get (messages_at plan o from to) r) None ≡ Some m → has_high_bits m.shape (table g r from to) ≡ false
  gate_shaped g r from to None found a b apart m e = cc
  gate_shaped g r from to (Some gate) found a b apart m e = kind_shaped g r from to gate.kind gate.width a b apart found m e

  shaped : (g r from to : ℕ) (both : Bool) → are_two n from to ≡ both → (m : Message) →
      (if both then unwrap_or (slice_get (messages_at plan (slice_get plan.gates g) from to) r) None else None) ≡ Some m →
      has_high_bits m.shape (table g r from to) ≡ false
  shaped g r from to false is m e = cc
  shaped g r from to true is m e =
      let parts = two_parts n from to is in
      gate_shaped g r from to (slice_get plan.gates g) refl parts.0 parts.1 parts.2 m e

pub payloads_have_their_shapes : PayloadsHaveTheirShapes
payloads_have_their_shapes plan owns table valid each joint g r from to m e =
    shaped plan owns table valid each joint g r from to (are_two plan.parties from to) refl m e
