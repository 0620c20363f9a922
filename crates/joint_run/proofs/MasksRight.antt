-- In a joint run with honest parts, the parties' parts of each mask fit together.
use Rattle.std.proofs.Common.{ℕ, ◌≡◌, ◌<◌, ◌≤◌, ◌+◌, ◌-◌, ◌*◌, ◌/◌, ◌%◌, ◌^◌, Bool, true, false, cond, List, Some, sym, ◌∙◌, ap, subst, arith}
use Rattle.std.specs.Prelude.{slice_get, nat_lt, ◌==◌}
use Rattle.std.proofs.Math.Path.{fun_ext}
use Rattle.std.proofs.Math.Nat.{mod-lt}
use Rattle.std.proofs.lemmas.Nat.{xor_lt, pow_pos}
use Rattle.share_types.specs.declared.needs.Needs.{Needs}
use Rattle.share_types.specs.declared.records.KeyBit.{KeyBit}
use Rattle.share_types.specs.Keys.{bit, times, key_at}
use Rattle.boolean_gmw.proofs.Xors.{xor_small}
use Rattle.bmr_keys.specs.Mask.{Mask, cut, behind, own_times, fresh_mask, constant_mask, xor_mask, flip_mask, slice_mask, join_mask}
use Rattle.bmr_keys.specs.Wires.{whole, IsMask}
use Rattle.bmr_keys.proofs.Masks.{fresh-recombine, constant-recombines, xor-recombines, flip-recombines, slice-recombines, join-recombines, zero_keys-are_even}
use Rattle.bmr_garble.specs.Product.{key_bit_at}
use Rattle.plan_gates.specs.Gate.{Kind, Gate, Mask as mask_given, mask as mask_use, gives, width_at, KeyMask, ConstMask, XorMask, FlipMask, SliceMask, JoinMask}
use Rattle.plan_gates.specs.Plan.{Gates, IsPlan, IsGate, IsOperand}
use Rattle.plan_gates.specs.Needs.{needs_at, needs_there}
use Rattle.joint_run.specs.Party as party
use Rattle.joint_run.specs.Party.{Own, Value, Hand, Rounds, mask_part, keys_of, owner_keys, hand_at, wires_before, party_value, value_at, gate_value}
use Rattle.joint_run.specs.Joint.{Payloads, column, IsJoint}
use Rattle.joint_run.specs.Honest.{own_at, AreHonest}
use Rattle.joint_run.proofs.Causal.{strong}
use Rattle.joint_run.proofs.Run.{wire_is, wide_is}
use Rattle.joint_run.proofs.Narrow.{narrow, bits_in}
use Rattle.joint_run.proofs.Dealing.{records_match}
use Rattle.joint_run.proofs.Keys.{zero_low, times_low, key_cut}
use Rattle.joint_run.proofs.KeyValues.{key-any, key-past, listed, listed-mask}
use Rattle.mot_base.proofs.Lists.{inside_of}

-- ---- keys of 128 bits

abbrev pub IsLow : ℕ → Type 0
IsLow k = k < 2 ^ 128

-- all keys of a part, and its shares for n owners, have 128 bits
abbrev pub AreLow : ℕ → Mask → Type 0
AreLow n u = ((i : ℕ) → IsLow (u.keys i)) × ((i j : ℕ) → j < n → IsLow (u.shares i j))

pub either_low : (b : Bool) (x y : ℕ) → IsLow x → IsLow y → IsLow (cond b x y)
either_low true x y p q = p
either_low false x y p q = q

pub cut_low : (w : ℕ) (f : ℕ → ℕ) (i : ℕ) → ((k : ℕ) → IsLow (f k)) → IsLow (cut w f i)
cut_low w f i low = either_low (nat_lt i w) (f i) 0 (low i) (pow_pos 128)

behind_low : (w : ℕ) (f g : ℕ → ℕ) (i : ℕ) → ((k : ℕ) → IsLow (f k)) → ((k : ℕ) → IsLow (g k)) → IsLow (behind w f g i)
behind_low w f g i p q = either_low (nat_lt i w) (f i) (g (i - w)) (p i) (q (i - w))

pub own_low : (me offset c i j : ℕ) → IsLow offset → IsLow (own_times me offset c i j)
own_low me offset c i j low = either_low (j == me) (times (bit c i) offset) 0 (times_low (bit c i) offset low) (pow_pos 128)

low_fresh : (n w : ℕ) (records : ℕ → KeyBit) (zero_keys : ℕ → ℕ) → ((k j : ℕ) → IsLow (key_at (records k).times j)) → ((k : ℕ) → IsLow (zero_keys k)) →
    AreLow n (fresh_mask w records zero_keys)
low_fresh n w records zero_keys p q = (
  (λ i. cut_low w zero_keys i q),
  (λ i j h. cut_low w (λ k. key_at (records k).times j) i (λ k. p k j)),
)

low_constant : (n me offset c : ℕ) → IsLow offset → AreLow n (constant_mask me offset c)
low_constant n me offset c low = ((λ i. pow_pos 128), (λ i j h. own_low me offset c i j low))

low_xor : (n : ℕ) (u v : Mask) → AreLow n u → AreLow n v → AreLow n (xor_mask u v)
low_xor n u v p q = (
  (λ i. xor_lt 128 (u.keys i) (v.keys i) (p.0 i) (q.0 i)),
  (λ i j h. xor_lt 128 (u.shares i j) (v.shares i j) (p.1 i j h) (q.1 i j h)),
)

low_flip : (n me offset c : ℕ) (u : Mask) → IsLow offset → AreLow n u → AreLow n (flip_mask me offset u c)
low_flip n me offset c u low p = (
  p.0,
  (λ i j h. xor_lt 128 (u.shares i j) (own_times me offset c i j) (p.1 i j h) (own_low me offset c i j low)),
)

low_slice : (n from w : ℕ) (u : Mask) → AreLow n u → AreLow n (slice_mask from w u)
low_slice n from w u p = (
  (λ i. cut_low w (λ k. u.keys (from + k)) i (λ k. p.0 (from + k))),
  (λ i j h. cut_low w (λ k. u.shares (from + k) j) i (λ k. p.1 (from + k) j h)),
)

low_join : (n w : ℕ) (u v : Mask) → AreLow n u → AreLow n v → AreLow n (join_mask w u v)
low_join n w u v p q = (
  (λ i. behind_low w u.keys v.keys i p.0 q.0),
  (λ i j h. behind_low w (λ k. u.shares k j) (λ k. v.shares k j) i (λ k. p.1 k j h) (λ k. q.1 k j h)),
)

low_listed : (n w : ℕ) (u : Mask) → 0 < n → AreLow n u → AreLow n (listed n w u)
low_listed n w u some p = (
  (λ i. key-any IsLow w u.keys i (pow_pos 128) (λ k h. p.0 k)),
  (λ i j h. key-any IsLow (w * n) (λ k. u.shares (k / n) (k % n)) (i * n + j) (pow_pos 128) (λ k less. p.1 (k / n) (k % n) (mod-lt k some))),
)

-- ---- parts that fit together

-- the parties' parts of a mask of w bits: they are parts of one mask, which has w bits and so have the zero keys, and all
-- keys have 128 bits
pub record AreParts (n w : ℕ) (offset : ℕ → ℕ) (u : ℕ → Mask) : Type 0 where
  pub mask : IsMask n offset u (whole n u)
  pub small : whole n u < 2 ^ w
  pub low : (p : ℕ) → p < n → AreLow n (u p)
  pub past : (p i : ℕ) → w ≤ i → (u p).keys i ≡ 0

listed_parts : (n w : ℕ) (offset : ℕ → ℕ) (u : ℕ → Mask) (x : ℕ) → 0 < n → IsMask n offset u x → whole n u < 2 ^ w → ((p : ℕ) → p < n → AreLow n (u p)) →
    AreParts n w offset (λ p. listed n w (u p))
listed_parts n w offset u x some is small low = record {
  mask = listed-mask n w offset u (subst (IsMask n offset u) (sym is.bits) is) small;
  small = small;
  low = λ p h. low_listed n w (u p) some (low p h);
  past = λ p i h. key-past w (u p).keys i h;
}

module _ (plan : Gates) (owns : List Own) (bases : Needs) (session : ℕ) (table : Payloads)
    (valid : IsPlan plan) (honest : AreHonest plan owns bases session) (joint : IsJoint plan owns table) where
  abbrev n : ℕ
  n = plan.parties

  abbrev own : ℕ → Own
  own p = own_at owns p

  abbrev wires : ℕ → ℕ → List Value
  wires g p = wires_before plan p (own p) (column table p) g

  abbrev at : ℕ → ℕ → Hand
  at g p = hand_at plan p (own p) (column table p) g

  abbrev value : ℕ → ℕ → Value
  value g p = party_value plan p (own p) (column table p) g

  abbrev wide : ℕ → ℕ
  wide g = width_at plan.gates g

  abbrev offset : ℕ → ℕ
  offset p = (own p).part.offset % 2 ^ 128

  abbrev masks : ℕ → ℕ → Mask
  masks g p = mask_part n (value g p)

  some : 0 < n
  some = let enough : 2 ≤ plan.parties = valid.some_parties in omega (arith, enough)

  offset_low : (p : ℕ) → IsLow (offset p)
  offset_low p = mod-lt (own p).part.offset (pow_pos 128)

  pub mask_is : (g x : ℕ) → x < g → (λ (p : ℕ). party.mask (at g p) x) ≡ masks x
  mask_is g x less = fun_ext (λ p. ap (mask_part n) (wire_is plan owns table honest.each joint g x p less))

  abbrev IsFit : ℕ → Type 0
  IsFit g = (gate : Gate) → slice_get plan.gates g ≡ Some gate → gives gate.kind ≡ mask_given → AreParts n (wide g) offset (masks g)

  abbrev AreFit : ℕ → Type 0
  AreFit g = (k : ℕ) → k < g → IsFit k

  operand : (g x : ℕ) → AreFit g → IsOperand plan.gates g (mask_use x) → AreParts n (wide x) offset (λ p. party.mask (at g p) x)
  operand g x ih (less, earlier, found, is) = subst (AreParts n (wide x) offset) (sym (mask_is g x less)) (ih x less earlier found is)

  -- what a gate of a kind makes
  abbrev made : ℕ → Kind → ℕ → Mask
  made g kind p = mask_part n (gate_value kind (at g p) (column table p g))

  mask_small : (g : ℕ) (gate : Gate) → slice_get plan.gates g ≡ Some gate → gives gate.kind ≡ mask_given → whole n (made g gate.kind) < 2 ^ wide g
  mask_small g gate found is =
      xor_small n (wide g) (λ p. (made g gate.kind p).mask) (λ p h.
      subst (λ v. (mask_part n v).mask < 2 ^ wide g) (ap (λ o. value_at o (at g p) (column table p g)) found)
      (subst (λ given. bits_in n given (value g p) < 2 ^ wide g) is (narrow plan owns table valid honest.each joint g gate found p h)))

  made_parts : (g : ℕ) (kind : Kind) → AreFit g → IsGate plan g (record { kind = kind; width = wide g }) →
      slice_get plan.gates g ≡ Some (record { kind = kind; width = wide g }) → gives kind ≡ mask_given →
      whole n (made g kind) < 2 ^ wide g → AreParts n (wide g) offset (made g kind)
  made_parts g KeyMask ih is found given small =
      let needed : (needs_at plan g).key ≡ wide g = ap (λ o. (needs_there plan o).key) found in
      let inside = inside_of plan.gates g (record { kind = KeyMask; width = wide g }) found in
      listed_parts n (wide g) offset (λ p. party.fresh (at g p)) _ some
      (fresh-recombine n (wide g) offset (λ p. party.key_record (at g p)) (λ p. party.zero_key (at g p))
      (records_match plan owns bases session honest (wires g) g inside needed)
      (λ p k h. zero_keys-are_even (own p).seed ((party.first (at g p)).key + k))).0
      small
      (λ p h. low_fresh n (wide g) (party.key_record (at g p)) (party.zero_key (at g p))
      (λ k j. record_low (key_bit_at (own p).part.keys ((party.first (at g p)).key + k)) j)
      (λ k. zero_low (own p).seed ((party.first (at g p)).key + k)))
    where
      record_low : (r : KeyBit) (j : ℕ) → IsLow (key_at (party.low_keys r).times j)
      record_low r j = subst IsLow (sym (key_cut r.times j)) (mod-lt (key_at r.times j) (pow_pos 128))
  made_parts g (ConstMask c) ih is found given small =
      listed_parts n (wide g) offset (λ p. constant_mask p (offset p) c) c some (constant-recombines n offset c some) small
      (λ p h. low_constant n p (offset p) c (offset_low p))
  made_parts g (XorMask u v) ih is found given small =
      let a = operand g u ih is.uses.0 in
      let b = operand g v ih is.uses.1.0 in
      listed_parts n (wide g) offset (λ p. xor_mask (party.mask (at g p) u) (party.mask (at g p) v)) _ some
      (xor-recombines n offset (λ p. party.mask (at g p) u) (λ p. party.mask (at g p) v) _ _ a.mask b.mask) small
      (λ p h. low_xor n (party.mask (at g p) u) (party.mask (at g p) v) (a.low p h) (b.low p h))
  made_parts g (FlipMask u c) ih is found given small =
      let a = operand g u ih is.uses.0 in
      listed_parts n (wide g) offset (λ p. flip_mask p (offset p) (party.mask (at g p) u) c) _ some
      (flip-recombines n offset (λ p. party.mask (at g p) u) _ c some a.mask) small
      (λ p h. low_flip n p (offset p) c (party.mask (at g p) u) (offset_low p) (a.low p h))
  made_parts g (SliceMask u from) ih is found given small =
      let a = operand g u ih is.uses.0 in
      listed_parts n (wide g) offset (λ p. slice_mask from (wide g) (party.mask (at g p) u)) _ some
      (slice-recombines n offset (λ p. party.mask (at g p) u) _ from (wide g) a.mask) small
      (λ p h. low_slice n from (wide g) (party.mask (at g p) u) (a.low p h))
  made_parts g (JoinMask u v) ih is found given small =
      let a = operand g u ih is.uses.0 in
      let b = operand g v ih is.uses.1.0 in
      listed_parts n (wide g) offset (λ p. join_mask (wide u) (party.mask (at g p) u) (party.mask (at g p) v)) _ some
      (join-recombines n offset (λ p. party.mask (at g p) u) (λ p. party.mask (at g p) v) _ _ (wide u) a.mask b.mask) small
      (λ p h. low_join n (wide u) (party.mask (at g p) u) (party.mask (at g p) v) (a.low p h) (b.low p h))
  made_parts g _ ih is found given small = cc

  pub fits : (g : ℕ) → IsFit g
  fits = strong IsFit (λ g ih gate found is.
      let same : gate ≡ record { kind = gate.kind; width = wide g } = ap (λ (w : ℕ). let it : Gate = record { kind = gate.kind; width = w } in it) (sym (wide_is plan g gate found)) in
      let there : slice_get plan.gates g ≡ Some (record { kind = gate.kind; width = wide g }) = found ∙ ap (λ (x : Gate). Some x) same in
      subst (AreParts n (wide g) offset) (fun_ext (λ p. ap (mask_part n) (sym (ap (λ o. value_at o (at g p) (column table p g)) found))))
      (made_parts g gate.kind ih (valid.each g (record { kind = gate.kind; width = wide g }) there) there is (mask_small g gate found is)))

  -- the parts of an operand
  pub operand_fits : (g x : ℕ) → IsOperand plan.gates g (mask_use x) → AreParts n (wide x) offset (λ p. party.mask (at g p) x)
  operand_fits g x is = operand g x (λ k less. fits k) is

  pub operand_small : (g x : ℕ) → IsOperand plan.gates g (mask_use x) → wide x ≡ wide g → (p : ℕ) → p < n → (party.mask (at g p) x).mask < 2 ^ wide g
  operand_small g x (less, earlier, found, is) same p h =
      subst (λ v. (mask_part n v).mask < 2 ^ wide g) (sym (wire_is plan owns table honest.each joint g x p less))
      (subst (λ w. (masks x p).mask < 2 ^ w) same
      (subst (λ given. bits_in n given (value x p) < 2 ^ wide x) is (narrow plan owns table valid honest.each joint x earlier found p h)))
