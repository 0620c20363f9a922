-- In a joint run with honest parts, each wire that is shared as keys recombines at each party: by induction on how its two
-- gates come to be a wire.
use Rattle.std.proofs.Common.{ℕ, ◌≡◌, ◌<◌, ◌≤◌, ◌+◌, ◌*◌, ◌/◌, ◌%◌, ◌^◌, List, length, Some, inl, inr, refl, sym, ◌∙◌, ap, ap₂, subst, arith, false}
use Rattle.std.specs.Prelude.{slice_get, slice_index, bit_xor, bit_and}
use Rattle.std.specs.Int.Bits.{xor_assoc, xor_zero_l}
use Rattle.std.proofs.lemmas.Bool.{cases_lt}
use Rattle.std.proofs.Math.Path.{fun_ext}
use Rattle.std.proofs.Math.Nat.{mod-eq_of_lt, zero-mod}
use Rattle.std.proofs.lemmas.Nat.{xor_lt, pow_pos}
use Rattle.share_types.specs.declared.needs.Needs.{Needs}
use Rattle.share_types.specs.Keys.{◌⊕◌, bit, times, key_at}
use Rattle.bmr_keys.specs.Mask.{Mask, slice, join, constant_mask, xor_mask, flip_mask, slice_mask, join_mask}
use Rattle.bmr_keys.specs.Wires.{Active, whole, IsActive, IsMask, HasWidth}
use Rattle.bmr_keys.proofs.Labels.{bit-above, exchange, xor_zero_r, slice-xor, join-xor}
use Rattle.bmr_garble.specs.Table.{Entries, IsGarbled}
use Rattle.bmr_eval.specs.Active.{zero_active, xor_active, slice_active, join_active, and_active}
use Rattle.bmr_eval.proofs.Evaluating.{zero-recombines, flip-recombines, xor-recombines, slice-recombines, join-recombines, and-recombines}
use Rattle.plan_gates.specs.Gate.{Kind, Gate, Mask as mask_given, Online as online_given, mask as mask_use, online as online_use, gives, width_at, KeyMask, ConstMask, XorMask, FlipMask, SliceMask, JoinMask, InOnline, ShareAOnline, ShareBOnline, ZeroOnline, XorOnline, SliceOnline, JoinOnline, Garble, EvalY, gate_of}
use Rattle.plan_gates.specs.Plan.{Gates, IsPlan, IsGate, IsOperand, StandsAt, IsWire, enters, enters_word, enters_vector, stays, flips, xors, slices, joins, evaluates}
use Rattle.plan_gates.specs.Plain.{Outside, operand_number, operands_there}
use Rattle.joint_run.specs.Party as party
use Rattle.joint_run.specs.Party.{Own, Value, Hand, Rounds, word_share, vector_share, mask_part, active_part, entries_in, keys_of, hand_at, wires_before, party_value, value_at, gate_value}
use Rattle.joint_run.specs.Joint.{Payloads, column, IsJoint}
use Rattle.joint_run.specs.Honest.{own_at, AreHonest, AreInputs}
use Rattle.joint_run.specs.Parts.{AreShares}
use Rattle.joint_run.proofs.Run.{wire_is, wide_is}
use Rattle.joint_run.proofs.Narrow.{Enters, narrow, bits_in, enters_input, enters_share, enters_bits}
use Rattle.joint_run.proofs.Numbers.{plain, numbered, plain_is, number_there, operand_number_small}
use Rattle.joint_run.proofs.Sharing.{join_small}
use Rattle.joint_run.proofs.Dealing.{offsets_odd}
use Rattle.joint_run.proofs.KeyValues.{key-there, key-past, listed, listed_active, seen-listed}
use Rattle.joint_run.proofs.MasksRight.{AreParts, fits, operand_fits, mask_is}
use Rattle.joint_run.proofs.Entering.{entry_wire}
use Rattle.joint_run.proofs.Garbling.{garbled}
use Rattle.mot_base.proofs.Lists.{inside_of}

-- numbers of a width
cut_xor : (w x y : ℕ) → x < 2 ^ w → y < 2 ^ w → bit_xor x y % 2 ^ w ≡ bit_xor x y
cut_xor w x y p q = mod-eq_of_lt (xor_lt w x y p q)

module _ (plan : Gates) (owns : List Own) (bases : Needs) (session : ℕ) (outside : Outside) (table : Payloads)
    (valid : IsPlan plan) (honest : AreHonest plan owns bases session) (inputs_are : AreInputs plan owns outside.inputs) (parts_are : AreShares plan owns table outside) (joint : IsJoint plan owns table) where
  abbrev n : ℕ
  n = plan.parties

  abbrev own : ℕ → Own
  own p = own_at owns p

  abbrev at : ℕ → ℕ → Hand
  at g p = hand_at plan p (own p) (column table p) g

  abbrev value : ℕ → ℕ → Value
  value g p = party_value plan p (own p) (column table p) g

  abbrev wide : ℕ → ℕ
  wide g = width_at plan.gates g

  abbrev offset : ℕ → ℕ
  offset p = (own p).part.offset % 2 ^ 128

  abbrev masks : ℕ → ℕ → Mask
  masks g p = mask_part n (value g p)

  abbrev onlines : ℕ → ℕ → Active
  onlines g p = active_part n (value g p)

  abbrev number : ℕ → ℕ
  number g = numbered plan outside g

  abbrev wire_number : ℕ → ℕ → ℕ
  wire_number m o = bit_xor (number o) (number m)

  some : 0 < n
  some = let enough : 2 ≤ plan.parties = valid.some_parties in omega (arith, enough)

  gate_there : (g : ℕ) (kind : Kind) (w : ℕ) → StandsAt plan.gates g kind w → IsGate plan g (gate_of kind w)
  gate_there g kind w found = valid.each g (gate_of kind w) found

  wide_there : (g : ℕ) (kind : Kind) (w : ℕ) → StandsAt plan.gates g kind w → wide g ≡ w
  wide_there g kind w found = wide_is plan g (gate_of kind w) found

  -- a mask is as wide as the masked bits
  wire_wide : (m o : ℕ) → IsWire plan.gates m o → wide m ≡ wide o
  wire_wide m o (enters _ _ w party k low a b) = wide_there m KeyMask w a ∙ sym (wide_there o (InOnline party k low m) w b)
  wire_wide m o (enters_word _ _ w party x a b) = wide_there m KeyMask w a ∙ sym (wide_there o (ShareAOnline party x m) w b)
  wire_wide m o (enters_vector _ _ w party x a b) = wide_there m KeyMask w a ∙ sym (wide_there o (ShareBOnline party x m) w b)
  wire_wide m o (stays _ _ w c a b) = wide_there m (ConstMask c) w a ∙ sym (wide_there o ZeroOnline w b)
  wire_wide m o (flips _ _ w u c a wire) =
      wide_there m (FlipMask u c) w a ∙ (sym (gate_there m (FlipMask u c) w a).fit.0 ∙ wire_wide u o wire)
  wire_wide m o (xors _ _ w u v x y a b _ _) = wide_there m (XorMask u v) w a ∙ sym (wide_there o (XorOnline x y) w b)
  wire_wide m o (slices _ _ w u x low a b _) = wide_there m (SliceMask u low) w a ∙ sym (wide_there o (SliceOnline x low) w b)
  wire_wide m o (joins _ _ w u v x y a b _ _) = wide_there m (JoinMask u v) w a ∙ sym (wide_there o (JoinOnline x y) w b)
  wire_wide m o (evaluates _ _ w t u v x y a b c _ _) = wide_there m KeyMask w a ∙ sym (wide_there o (EvalY t x y) w c)

  -- ---- what stands at the gates

  abbrev made_mask : ℕ → Kind → ℕ → Mask
  made_mask g kind p = mask_part n (gate_value kind (at g p) (column table p g))

  abbrev made_online : ℕ → Kind → ℕ → Active
  made_online g kind p = active_part n (gate_value kind (at g p) (column table p g))

  masks_made : (g : ℕ) (kind : Kind) (w : ℕ) → StandsAt plan.gates g kind w → made_mask g kind ≡ masks g
  masks_made g kind w found = fun_ext (λ p. ap (mask_part n) (sym (ap (λ o. value_at o (at g p) (column table p g)) found)))

  online_made : (g p : ℕ) (kind : Kind) (w : ℕ) → StandsAt plan.gates g kind w → made_online g kind p ≡ onlines g p
  online_made g p kind w found = ap (active_part n) (sym (ap (λ o. value_at o (at g p) (column table p g)) found))

  made_small : (g p : ℕ) (kind : Kind) (w : ℕ) → StandsAt plan.gates g kind w → gives kind ≡ online_given → p < n →
      (made_online g kind p).masked < 2 ^ wide g
  made_small g p kind w found is h =
      subst (λ v. (active_part n v).masked < 2 ^ wide g) (ap (λ o. value_at o (at g p) (column table p g)) found)
      (subst (λ given. bits_in n given (value g p) < 2 ^ wide g) is (narrow plan owns table valid honest.each joint g (gate_of kind w) found p h))

  online_is : (g x p : ℕ) → x < g → party.online (at g p) x ≡ onlines x p
  online_is g x p less = ap (active_part n) (wire_is plan owns table honest.each joint g x p less)

  masks_are : (g x : ℕ) → x < g → (λ (p : ℕ). party.mask (at g p) x) ≡ masks x
  masks_are g x less = mask_is plan owns bases session table valid honest joint g x less

  moved : (u v : ℕ → Mask) (x y : ℕ) (a b : Active) → u ≡ v → x ≡ y → a ≡ b → IsActive n offset u x a → IsActive n offset v y b
  moved u v x y a b as_mask as_number as_online is =
      subst (λ k. IsActive n offset v y k) as_online (subst (λ k. IsActive n offset v k a) as_number (subst (λ k. IsActive n offset k x a) as_mask is))

  -- a wire, as the gates see it that use its mask and its masked bits
  pub seen_wire : (m o u a p x : ℕ) → u < m → a < o → IsActive n offset (masks u) x (onlines a p) →
      IsActive n offset (λ q. party.mask (at m q) u) x (party.online (at o p) a)
  seen_wire m o u a p x less lower is =
      moved (masks u) (λ q. party.mask (at m q) u) x x (onlines a p) (party.online (at o p) a) (sym (masks_are m u less)) refl (sym (online_is o a p lower)) is

  -- a wire of which both gates list what an operation makes
  wired : (m o p : ℕ) (made : ℕ → Mask) (x : ℕ) (a : Active) → wide m ≡ wide o → (λ q. listed n (wide m) (made q)) ≡ masks m →
      listed_active n (wide o) a ≡ onlines o p → a.masked < 2 ^ wide o → IsActive n offset made x a → IsActive n offset (masks m) x (onlines o p)
  wired m o p made x a same as_mask as_online small is =
      moved (λ q. listed n (wide m) (made q)) (masks m) x x (listed_active n (wide o) a) (onlines o p) as_mask refl as_online
      (seen-listed n (wide o) offset made (λ q. listed n (wide m) (made q)) x a is small refl
      (λ i j h. key-there (wide m) (made j).keys i (subst (λ w. i < w) (sym same) h))
      (λ i j h. key-past (wide m) (made j).keys i (subst (λ w. w ≤ i) (sym same) h)))

  -- ---- numbers

  number_is : (g x : ℕ) → x < g → slice_index (plain plan outside g) x ≡ number x
  number_is g x less = plain_is plan outside g x less

  fresh_number : (m w : ℕ) → StandsAt plan.gates m KeyMask w → number m ≡ 0
  fresh_number m w found = number_there plan outside m KeyMask w found ∙ zero-mod (2 ^ w)

  abbrev Wires : ℕ → ℕ → ℕ → Type 0
  Wires m o p = IsActive n offset (masks m) (wire_number m o) (onlines o p)

  -- a value that a party enters
  entry_case : (m o w owner : ℕ) (kind : Kind) (value : Hand → ℕ) → Enters kind owner m value → StandsAt plan.gates m KeyMask w → StandsAt plan.gates o kind w →
      owner < n → IsOperand plan.gates o (mask_use m) → wide m ≡ w → number o ≡ value (at o owner) → (p : ℕ) → p < n → gives kind ≡ online_given → Wires m o p
  entry_case m o w owner kind value way there found inside used as_wide entered p h is_online =
      moved (λ q. party.mask (at o q) m) (masks m) (value (at o owner)) (wire_number m o) (made_online o kind p) (onlines o p)
      (masks_are o m used.0)
      (sym (ap₂ bit_xor entered (fresh_number m w there) ∙ xor_zero_r (value (at o owner))))
      (online_made o p kind w found)
      (entry_wire plan owns bases session table valid honest joint o owner m w kind value way found inside used as_wide p h)

  input_case : (m o w owner k low p : ℕ) → p < n → StandsAt plan.gates m KeyMask w → StandsAt plan.gates o (InOnline owner k low m) w → Wires m o p
  input_case m o w owner k low p h there found =
      let is = gate_there o (InOnline owner k low m) w found in
      let brought : slice_index outside.inputs k ≡ party.input (at o owner) k = inputs_are o (gate_of (InOnline owner k low m) w) (record { party = owner; k = k }) found refl in
      entry_case m o w owner (InOnline owner k low m) (λ h. party.input_bits h k low) (enters_input owner k low m) there found is.party is.uses.0 is.fit.0
      (number_there plan outside o (InOnline owner k low m) w found
      ∙ ap₂ (λ (v s : ℕ). v / 2 ^ low % 2 ^ s) brought (sym (wide_there o (InOnline owner k low m) w found)))
      p h refl

  word_case : (m o w owner x p : ℕ) → p < n → StandsAt plan.gates m KeyMask w → StandsAt plan.gates o (ShareAOnline owner x m) w → Wires m o p
  word_case m o w owner x p h there found =
      let is = gate_there o (ShareAOnline owner x m) w found in
      let brought : outside.parts owner x ≡ party.word (at o owner) x =
      parts_are.words o owner x m w found owner is.party ∙ ap word_share (sym (wire_is plan owns table honest.each joint o x owner is.uses.0.0)) in
      entry_case m o w owner (ShareAOnline owner x m) (λ h. party.word_bits h x) (enters_share owner x m) there found is.party is.uses.1.0 is.fit.1.0
      (number_there plan outside o (ShareAOnline owner x m) w found
      ∙ ap₂ (λ (v s : ℕ). v % 2 ^ s) brought (sym (wide_there o (ShareAOnline owner x m) w found)))
      p h refl

  vector_case : (m o w owner x p : ℕ) → p < n → StandsAt plan.gates m KeyMask w → StandsAt plan.gates o (ShareBOnline owner x m) w → Wires m o p
  vector_case m o w owner x p h there found =
      let is = gate_there o (ShareBOnline owner x m) w found in
      let brought : outside.parts owner x ≡ party.vector (at o owner) x =
      parts_are.vectors o owner x m w found owner is.party ∙ ap vector_share (sym (wire_is plan owns table honest.each joint o x owner is.uses.0.0)) in
      entry_case m o w owner (ShareBOnline owner x m) (λ h. party.vector_bits h x) (enters_bits owner x m) there found is.party is.uses.1.0 is.fit.1.0
      (number_there plan outside o (ShareBOnline owner x m) w found
      ∙ ap₂ (λ (v s : ℕ). v % 2 ^ s) brought (sym (wide_there o (ShareBOnline owner x m) w found)))
      p h refl

  constant_case : (m o w c p : ℕ) → p < n → StandsAt plan.gates m (ConstMask c) w → StandsAt plan.gates o ZeroOnline w → Wires m o p
  constant_case m o w c p h there found =
      let is = gate_there m (ConstMask c) w there in
      let flat : number m ≡ c = number_there plan outside m (ConstMask c) w there ∙ mod-eq_of_lt is.small in
      let none : number o ≡ 0 = number_there plan outside o ZeroOnline w found ∙ zero-mod (2 ^ w) in
      subst (λ x. IsActive n offset (masks m) x (onlines o p)) (sym (ap₂ bit_xor none flat ∙ xor_zero_l c))
      (wired m o p (λ q. constant_mask q (offset q) c) c zero_active
      (wide_there m (ConstMask c) w there ∙ sym (wide_there o ZeroOnline w found))
      (masks_made m (ConstMask c) w there) (online_made o p ZeroOnline w found) (pow_pos (wide o)) (zero-recombines n offset c some))

  flip_case : (m o w u c p : ℕ) → p < n → StandsAt plan.gates m (FlipMask u c) w → Wires u o p → Wires m o p
  flip_case m o w u c p h there wire =
      let is = gate_there m (FlipMask u c) w there in
      let less : u < m = is.uses.0.0 in
      let before : ℕ → Mask = λ q. party.mask (at m q) u in
      let same : wide m ≡ w = wide_there m (FlipMask u c) w there in
      let fit : AreParts n (wide u) offset before = operand_fits plan owns bases session table valid honest joint m u is.uses.0 in
      let here : IsActive n offset before (wire_number u o) (onlines o p) =
      subst (λ k. IsActive n offset k (wire_number u o) (onlines o p)) (sym (masks_are m u less)) wire in
      let flipped = flip-recombines n offset before (wire_number u o) c (onlines o p) some here in
      let u_small : number u < 2 ^ w = subst (λ s. number u < 2 ^ s) is.fit.0 (operand_number_small plan outside m (mask_use u) is.uses.0) in
      let after : number m ≡ bit_xor (number u) c =
      number_there plan outside m (FlipMask u c) w there
      ∙ (ap (λ v. bit_xor v c % 2 ^ w) (number_is m u less) ∙ cut_xor w (number u) c u_small is.small) in
      moved (λ q. listed n (wide m) (flip_mask q (offset q) (before q) c)) (masks m) (bit_xor (wire_number u o) c) (wire_number m o) (onlines o p) (onlines o p)
      (masks_made m (FlipMask u c) w there)
      (xor_assoc (number o) (number u) c ∙ ap (bit_xor (number o)) (sym after))
      refl
      (record {
        masked = flipped.masked;
        keys = λ i j a. flipped.keys i j a ∙ ap (λ k. k ⊕ times (bit (onlines o p).masked i) (offset j)) (sym (kept (wide m) (before j).keys i
            (λ past. fit.past j i (subst (λ s. s ≤ i) (same ∙ sym is.fit.0) past))));
      })
    where
      kept : (s : ℕ) (keys : ℕ → ℕ) (i : ℕ) → (s ≤ i → keys i ≡ 0) → key_at (keys_of s keys) i ≡ keys i
      kept s keys i none = elim (cases_lt i s) as (λ _. key_at (keys_of s keys) i ≡ keys i) [
        | inl inside ↦ key-there s keys i inside
        | inr past ↦ key-past s keys i past ∙ sym (none past)
      ]

  xor_case : (m o w u v a b p : ℕ) → p < n → StandsAt plan.gates m (XorMask u v) w → StandsAt plan.gates o (XorOnline a b) w →
      Wires u a p → Wires v b p → Wires m o p
  xor_case m o w u v a b p h there found first second =
      let is = gate_there m (XorMask u v) w there in
      let its = gate_there o (XorOnline a b) w found in
      let one = seen_wire m o u a p (wire_number u a) is.uses.0.0 its.uses.0.0 first in
      let two = seen_wire m o v b p (wire_number v b) is.uses.1.0.0 its.uses.1.0.0 second in
      let mask_number : number m ≡ bit_xor (number u) (number v) =
      number_there plan outside m (XorMask u v) w there
      ∙ (ap₂ (λ (x y : ℕ). bit_xor x y % 2 ^ w) (number_is m u is.uses.0.0) (number_is m v is.uses.1.0.0)
      ∙ cut_xor w (number u) (number v) (subst (λ s. number u < 2 ^ s) is.fit.0 (operand_number_small plan outside m (mask_use u) is.uses.0))
      (subst (λ s. number v < 2 ^ s) is.fit.1.0 (operand_number_small plan outside m (mask_use v) is.uses.1.0))) in
      let online_number : number o ≡ bit_xor (number a) (number b) =
      number_there plan outside o (XorOnline a b) w found
      ∙ (ap₂ (λ (x y : ℕ). bit_xor x y % 2 ^ w) (number_is o a its.uses.0.0) (number_is o b its.uses.1.0.0)
      ∙ cut_xor w (number a) (number b) (subst (λ s. number a < 2 ^ s) its.fit.0 (operand_number_small plan outside o (online_use a) its.uses.0))
      (subst (λ s. number b < 2 ^ s) its.fit.1.0 (operand_number_small plan outside o (online_use b) its.uses.1.0))) in
      subst (λ x. IsActive n offset (masks m) x (onlines o p))
      (exchange (number a) (number u) (number b) (number v) ∙ sym (ap₂ bit_xor online_number mask_number))
      (wired m o p (λ q. xor_mask (party.mask (at m q) u) (party.mask (at m q) v)) _ (xor_active (party.online (at o p) a) (party.online (at o p) b))
      (wide_there m (XorMask u v) w there ∙ sym (wide_there o (XorOnline a b) w found))
      (masks_made m (XorMask u v) w there) (online_made o p (XorOnline a b) w found) (made_small o p (XorOnline a b) w found refl h)
      (xor-recombines n offset (λ q. party.mask (at m q) u) (λ q. party.mask (at m q) v) (wire_number u a) (wire_number v b) (party.online (at o p) a) (party.online (at o p) b) one two))

  slice_case : (m o w u a low p : ℕ) → p < n → StandsAt plan.gates m (SliceMask u low) w → StandsAt plan.gates o (SliceOnline a low) w →
      Wires u a p → Wires m o p
  slice_case m o w u a low p h there found first =
      let is = gate_there m (SliceMask u low) w there in
      let its = gate_there o (SliceOnline a low) w found in
      let same : wide m ≡ wide o = wide_there m (SliceMask u low) w there ∙ sym (wide_there o (SliceOnline a low) w found) in
      let one = seen_wire m o u a p (wire_number u a) is.uses.0.0 its.uses.0.0 first in
      let mask_number : number m ≡ slice low (wide o) (number u) =
      number_there plan outside m (SliceMask u low) w there
      ∙ ap₂ (λ (x s : ℕ). x / 2 ^ low % 2 ^ s) (number_is m u is.uses.0.0) (sym (wide_there o (SliceOnline a low) w found)) in
      let online_number : number o ≡ slice low (wide o) (number a) =
      number_there plan outside o (SliceOnline a low) w found
      ∙ ap₂ (λ (x s : ℕ). x / 2 ^ low % 2 ^ s) (number_is o a its.uses.0.0) (sym (wide_there o (SliceOnline a low) w found)) in
      subst (λ x. IsActive n offset (masks m) x (onlines o p))
      (slice-xor low (wide o) (number a) (number u) ∙ sym (ap₂ bit_xor online_number mask_number))
      (wired m o p (λ q. slice_mask low (wide o) (party.mask (at m q) u)) (slice low (wide o) (wire_number u a)) (slice_active low (wide o) (party.online (at o p) a)) same
      (subst (λ s. (λ (q : ℕ). listed n (wide m) (slice_mask low s (party.mask (at m q) u))) ≡ masks m) same (masks_made m (SliceMask u low) w there))
      (online_made o p (SliceOnline a low) w found) (made_small o p (SliceOnline a low) w found refl h)
      (slice-recombines n offset (λ q. party.mask (at m q) u) (wire_number u a) low (wide o) (party.online (at o p) a) one))

  join_case : (m o w u v a b p : ℕ) → p < n → StandsAt plan.gates m (JoinMask u v) w → StandsAt plan.gates o (JoinOnline a b) w →
      wide u ≡ wide a → wide v ≡ wide b → Wires u a p → Wires v b p → Wires m o p
  join_case m o w u v a b p h there found low high first second =
      let is = gate_there m (JoinMask u v) w there in
      let its = gate_there o (JoinOnline a b) w found in
      let one = seen_wire m o u a p (wire_number u a) is.uses.0.0 its.uses.0.0 first in
      let two = seen_wire m o v b p (wire_number v b) is.uses.1.0.0 its.uses.1.0.0 second in
      let mask_number : number m ≡ join (wide u) (number u) (number v) =
      number_there plan outside m (JoinMask u v) w there
      ∙ (ap₂ (λ (x y : ℕ). (x + 2 ^ wide u * y) % 2 ^ w) (number_is m u is.uses.0.0) (number_is m v is.uses.1.0.0)
      ∙ joined_number (wide u) (wide v) w (number u) (number v) is.fit (operand_number_small plan outside m (mask_use u) is.uses.0) (operand_number_small plan outside m (mask_use v) is.uses.1.0)) in
      let online_number : number o ≡ join (wide u) (number a) (number b) =
      number_there plan outside o (JoinOnline a b) w found
      ∙ (ap₂ (λ (x y : ℕ). (x + 2 ^ wide a * y) % 2 ^ w) (number_is o a its.uses.0.0) (number_is o b its.uses.1.0.0)
      ∙ (joined_number (wide a) (wide b) w (number a) (number b) its.fit (operand_number_small plan outside o (online_use a) its.uses.0) (operand_number_small plan outside o (online_use b) its.uses.1.0)
      ∙ ap (λ s. join s (number a) (number b)) (sym low))) in
      subst (λ x. IsActive n offset (masks m) x (onlines o p))
      (join-xor (wide u) (number a) (number u) (number b) (number v) ∙ sym (ap₂ bit_xor online_number mask_number))
      (wired m o p (λ q. join_mask (wide u) (party.mask (at m q) u) (party.mask (at m q) v)) (join (wide u) (wire_number u a) (wire_number v b))
      (join_active (wide u) (party.online (at o p) a) (party.online (at o p) b))
      (wide_there m (JoinMask u v) w there ∙ sym (wide_there o (JoinOnline a b) w found))
      (masks_made m (JoinMask u v) w there)
      (subst (λ s. listed_active n (wide o) (join_active s (party.online (at o p) a) (party.online (at o p) b)) ≡ onlines o p) (sym low) (online_made o p (JoinOnline a b) w found))
      (subst (λ s. (join_active s (party.online (at o p) a) (party.online (at o p) b)).masked < 2 ^ wide o) (sym low) (made_small o p (JoinOnline a b) w found refl h))
      (join-recombines n offset (λ q. party.mask (at m q) u) (λ q. party.mask (at m q) v) (wire_number u a) (wire_number v b) (wide u) (party.online (at o p) a) (party.online (at o p) b) one two))
    where
      joined_number : (s t w x y : ℕ) → w ≡ s + t → x < 2 ^ s → y < 2 ^ t → (x + 2 ^ s * y) % 2 ^ w ≡ join s x y
      joined_number s t w x y both x_small y_small =
          mod-eq_of_lt (subst (λ k. x + 2 ^ s * y < 2 ^ k) (sym both) (join_small s t x y x_small y_small))
          ∙ ap (λ v. v + 2 ^ s * y) (sym (mod-eq_of_lt x_small))

  and_case : (m o w t u v a b p : ℕ) → p < n → StandsAt plan.gates m KeyMask w → StandsAt plan.gates t (Garble u v m) w → StandsAt plan.gates o (EvalY t a b) w →
      Wires u a p → Wires v b p → Wires m o p
  and_case m o w t u v a b p h there tabled found first second =
      let is = gate_there t (Garble u v m) w tabled in
      let its = gate_there o (EvalY t a b) w found in
      let behind : t < o = its.uses.0.0 in
      let u_less : u < t = is.uses.0.0 in
      let v_less : v < t = is.uses.1.0.0 in
      let same : wide t ≡ wide o = wide_there t (Garble u v m) w tabled ∙ sym (wide_there o (EvalY t a b) w found) in
      let result : ℕ → Mask = λ q. party.mask (at t q) m in
      let fit : AreParts n (wide m) offset result = operand_fits plan owns bases session table valid honest joint t m is.uses.1.1.0 in
      let wide_m : wide m ≡ wide o = wide_there m KeyMask w there ∙ sym (wide_there o (EvalY t a b) w found) in
      let entries : Entries = party.table (at o p) t in
      let entries_are : entries_in n (gate_value (Garble u v m) (at t p) (column table p t)) ≡ entries =
      ap (entries_in n) (sym (wire_is plan owns table honest.each joint o t p behind ∙ ap (λ k. value_at k (at t p) (column table p t)) tabled)) in
      let is_garbled : IsGarbled n (wide o) offset t (λ q. party.mask (at t q) u) (λ q. party.mask (at t q) v) result
      (whole n (λ q. party.mask (at t q) u)) (whole n (λ q. party.mask (at t q) v)) (whole n result) entries =
      subst (λ k. IsGarbled n (wide o) offset t (λ q. party.mask (at t q) u) (λ q. party.mask (at t q) v) result
      (whole n (λ q. party.mask (at t q) u)) (whole n (λ q. party.mask (at t q) v)) (whole n result) k) entries_are
      (subst (λ s. IsGarbled n s offset t (λ q. party.mask (at t q) u) (λ q. party.mask (at t q) v) result
      (whole n (λ q. party.mask (at t q) u)) (whole n (λ q. party.mask (at t q) v)) (whole n result) (entries_in n (gate_value (Garble u v m) (at t p) (column table p t)))) same
      (garbled plan owns bases session table valid honest joint t u v m w tabled p h)) in
      let one = seen_wire t o u a p (wire_number u a) u_less its.uses.1.0.0 first in
      let two = seen_wire t o v b p (wire_number v b) v_less its.uses.1.1.0.0 second in
      let seen : Active = and_active n (wide o) entries t (party.online (at o p) a) (party.online (at o p) b) in
      let width_of : HasWidth n (wide o) result = record {
        bits = λ i past. bit-above (whole n result) (wide o) i (subst (λ s. whole n result < 2 ^ s) wide_m fit.small) past;
        keys = λ i q past less. fit.past q i (subst (λ s. s ≤ i) (sym wide_m) past);
      } in
      let both : IsActive n offset result (bit_and (wire_number u a) (wire_number v b) % 2 ^ wide o) seen =
      and-recombines n (wide o) offset t (λ q. party.mask (at t q) u) (λ q. party.mask (at t q) v) result entries (wire_number u a) (wire_number v b)
      (party.online (at o p) a) (party.online (at o p) b) is_garbled one two some
      (offsets_odd plan owns bases session honest (λ q. wires_before plan q (own q) (column table q) t) t (inside_of plan.gates t (gate_of (Garble u v m) w) tabled))
      fit.mask.zeros width_of in
      let left_number : operand_number (plain plan outside o) (slice_get (operands_there (slice_get plan.gates t)) 0) ≡ number u =
      ap (λ k. operand_number (plain plan outside o) (slice_get (operands_there k) 0)) tabled ∙ number_is o u (omega (arith, u_less, behind)) in
      let right_number : operand_number (plain plan outside o) (slice_get (operands_there (slice_get plan.gates t)) 1) ≡ number v =
      ap (λ k. operand_number (plain plan outside o) (slice_get (operands_there k) 1)) tabled ∙ number_is o v (omega (arith, v_less, behind)) in
      let and_number : number o ≡ bit_and (wire_number u a) (wire_number v b) % 2 ^ wide o =
      number_there plan outside o (EvalY t a b) w found
      ∙ (ap₂ (λ (x y : ℕ). bit_and x y % 2 ^ w) (ap₂ bit_xor (number_is o a its.uses.1.0.0) left_number) (ap₂ bit_xor (number_is o b its.uses.1.1.0.0) right_number)
      ∙ ap (λ s. bit_and (wire_number u a) (wire_number v b) % 2 ^ s) (sym (wide_there o (EvalY t a b) w found))) in
      moved result (masks m) (bit_and (wire_number u a) (wire_number v b) % 2 ^ wide o) (wire_number m o) (listed_active n (wide o) seen) (onlines o p)
      (masks_are t m is.uses.1.1.0.0)
      (sym (ap₂ bit_xor and_number (fresh_number m w there) ∙ xor_zero_r (bit_and (wire_number u a) (wire_number v b) % 2 ^ wide o)))
      (online_made o p (EvalY t a b) w found)
      (seen-listed n (wide o) offset result result _ seen both (made_small o p (EvalY t a b) w found refl h) refl (λ i j less. refl)
      (λ i j past. fit.past j i (subst (λ s. s ≤ i) (sym wide_m) past)))

  -- ---- all wires

  pub wire_right : (m o : ℕ) → IsWire plan.gates m o → (p : ℕ) → p < n → Wires m o p
  wire_right m o (enters _ _ w owner k low a b) p h = input_case m o w owner k low p h a b
  wire_right m o (enters_word _ _ w owner x a b) p h = word_case m o w owner x p h a b
  wire_right m o (enters_vector _ _ w owner x a b) p h = vector_case m o w owner x p h a b
  wire_right m o (stays _ _ w c a b) p h = constant_case m o w c p h a b
  wire_right m o (flips _ _ w u c a wire) p h = flip_case m o w u c p h a (wire_right u o wire p h)
  wire_right m o (xors _ _ w u v x y a b first second) p h = xor_case m o w u v x y p h a b (wire_right u x first p h) (wire_right v y second p h)
  wire_right m o (slices _ _ w u x low a b first) p h = slice_case m o w u x low p h a b (wire_right u x first p h)
  wire_right m o (joins _ _ w u v x y a b first second) p h =
      join_case m o w u v x y p h a b (wire_wide u x first) (wire_wide v y second) (wire_right u x first p h) (wire_right v y second p h)
  wire_right m o (evaluates _ _ w t u v x y a b c first second) p h =
      and_case m o w t u v x y p h a b c (wire_right u x first p h) (wire_right v y second p h)

  -- the mask of a wire is one
  mask_given_at : (m o : ℕ) → IsWire plan.gates m o → (gate : Gate) × (slice_get plan.gates m ≡ Some gate) × (gives gate.kind ≡ mask_given)
  mask_given_at m o (enters _ _ w owner k low a b) = (gate_of KeyMask w, a, refl)
  mask_given_at m o (enters_word _ _ w owner x a b) = (gate_of KeyMask w, a, refl)
  mask_given_at m o (enters_vector _ _ w owner x a b) = (gate_of KeyMask w, a, refl)
  mask_given_at m o (stays _ _ w c a b) = (gate_of (ConstMask c) w, a, refl)
  mask_given_at m o (flips _ _ w u c a wire) = (gate_of (FlipMask u c) w, a, refl)
  mask_given_at m o (xors _ _ w u v x y a b first second) = (gate_of (XorMask u v) w, a, refl)
  mask_given_at m o (slices _ _ w u x low a b first) = (gate_of (SliceMask u low) w, a, refl)
  mask_given_at m o (joins _ _ w u v x y a b first second) = (gate_of (JoinMask u v) w, a, refl)
  mask_given_at m o (evaluates _ _ w t u v x y a b c first second) = (gate_of KeyMask w, a, refl)

  pub wire_fits : (m o : ℕ) → IsWire plan.gates m o → IsMask n offset (masks m) (whole n (masks m))
  wire_fits m o wire =
      let (gate, found, is) = mask_given_at m o wire in
      (fits plan owns bases session table valid honest joint m gate found is).mask

-- both gates of a wire stand in the plan
pub wire_inside : (plan : Gates) (m o : ℕ) → IsWire plan.gates m o → (m < length plan.gates) × (o < length plan.gates)
wire_inside plan m o (enters _ _ w owner k low a b) = (inside_of plan.gates m (gate_of KeyMask w) a, inside_of plan.gates o (gate_of (InOnline owner k low m) w) b)
wire_inside plan m o (enters_word _ _ w owner x a b) = (inside_of plan.gates m (gate_of KeyMask w) a, inside_of plan.gates o (gate_of (ShareAOnline owner x m) w) b)
wire_inside plan m o (enters_vector _ _ w owner x a b) = (inside_of plan.gates m (gate_of KeyMask w) a, inside_of plan.gates o (gate_of (ShareBOnline owner x m) w) b)
wire_inside plan m o (stays _ _ w c a b) = (inside_of plan.gates m (gate_of (ConstMask c) w) a, inside_of plan.gates o (gate_of ZeroOnline w) b)
wire_inside plan m o (flips _ _ w u c a wire) = (inside_of plan.gates m (gate_of (FlipMask u c) w) a, (wire_inside plan u o wire).1)
wire_inside plan m o (xors _ _ w u v x y a b first second) = (inside_of plan.gates m (gate_of (XorMask u v) w) a, inside_of plan.gates o (gate_of (XorOnline x y) w) b)
wire_inside plan m o (slices _ _ w u x low a b first) = (inside_of plan.gates m (gate_of (SliceMask u low) w) a, inside_of plan.gates o (gate_of (SliceOnline x low) w) b)
wire_inside plan m o (joins _ _ w u v x y a b first second) = (inside_of plan.gates m (gate_of (JoinMask u v) w) a, inside_of plan.gates o (gate_of (JoinOnline x y) w) b)
wire_inside plan m o (evaluates _ _ w t u v x y a b c first second) = (inside_of plan.gates m (gate_of KeyMask w) a, inside_of plan.gates o (gate_of (EvalY t x y) w) c)
