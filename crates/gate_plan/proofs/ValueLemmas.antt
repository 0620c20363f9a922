-- The number of an operation on bits is what the operation makes of those of its operands.
use Rattle.std.proofs.Common.{ℕ, ◌≡◌, ◌<◌, ◌+◌, ◌*◌, ◌/◌, ◌%◌, ◌^◌, Bool, true, false, List, [], ◌∷◌, Some, refl, sym, ◌∙◌, ap, ap₂, subst, arith}
use Rattle.std.specs.Prelude.{slice_get, slice_index, bit_and, bit_xor}
use Rattle.std.specs.Int.Bits.{xor_assoc, xor_zero_l}
use Rattle.std.proofs.Math.Nat.{mod-lt, mod-mod, mod-eq_of_lt}
use Rattle.std.proofs.lemmas.Nat.{xor_comm, xor_mod, xor_shr, xor_block, xor_lt, pow_pos}
use Rattle.mot_base.proofs.Lists.{index_at}
use Rattle.share_types.specs.declared.receiver.Receiver.{Receiver}
use Rattle.plan_gates.specs.Gate.{Kind, Gate, Given, gate_of, InB, ConstB, XorB, XorConstB, SliceB, JoinB, AndB, OutB, KeyMask, ConstMask, XorMask, FlipMask, SliceMask, JoinMask, InOnline, ZeroOnline, XorOnline, SliceOnline, JoinOnline, Garble, EvalY, YToB, width_at}
use Rattle.plan_gates.specs.Plan.{Gates, IsPlan}
use Rattle.plan_gates.specs.Plain.{Outside, number_of, seen_of, plain_numbers}
use Rattle.gate_plan.specs.declared.wire.Wire.{Wire}
use Rattle.gate_plan.specs.Blocks.{one, two, entered, constant, xored, anded, flipped, sliced, joined, told, Stand, AreNumbers, IsNumberOf, HasKeys}
use Rattle.gate_plan.proofs.StandLemmas.{first_of, IsValue, value_width, AreBits}
use Rattle.gate_plan.proofs.NumberLemmas.{plans_have_numbers}

-- ---- XOR

-- of two pairs, either way
four : (a b c d : ℕ) → bit_xor (bit_xor a b) (bit_xor c d) ≡ bit_xor (bit_xor a c) (bit_xor b d)
four a b c d =
    xor_assoc a b (bit_xor c d)
    ∙ (ap (bit_xor a) (sym (xor_assoc b c d) ∙ (ap (λ k. bit_xor k d) (xor_comm b c) ∙ xor_assoc c b d))
    ∙ sym (xor_assoc a c (bit_xor b d)))

-- of what is joined
join_xor : (low a b c d : ℕ) → a < 2 ^ low → c < 2 ^ low →
    bit_xor (a + 2 ^ low * b) (c + 2 ^ low * d) ≡ bit_xor a c + 2 ^ low * bit_xor b d
join_xor low a b c d h k =
    let first : a + 2 ^ low * b ≡ b * 2 ^ low + a = omega arith in
    let second : c + 2 ^ low * d ≡ d * 2 ^ low + c = omega arith in
    let whole : bit_xor b d * 2 ^ low + bit_xor a c ≡ bit_xor a c + 2 ^ low * bit_xor b d = omega arith in
    ap₂ bit_xor first second ∙ (xor_block low b d a c h k ∙ whole)

module _ (plan : Gates) (valid : IsPlan plan) (outside : Outside) where
  abbrev numbers : List ℕ
  numbers = plain_numbers plan outside

  are : AreNumbers plan.gates outside numbers
  are = plans_have_numbers plan outside valid

  abbrev index : ℕ → ℕ
  index g = slice_index numbers g

  -- the number of a gate has no bit at or above its width
  small : {bound : ℕ} {given : Given} {x width : ℕ} → IsValue plan.gates bound given x width → index x < 2 ^ width
  small {bound} {given} {x} {width} is =
      let P : ℕ → Type 0 = λ w. index x < 2 ^ w in
      subst P is.width_is
      (subst (λ k. k < 2 ^ is.gate.width) (sym (index_at numbers x _ (are x is.gate is.there)))
      (mod-lt _ (pow_pos is.gate.width)))

  -- bits that are shared as keys or by XOR
  abbrev pub HasBits : Bool → Wire → ℕ → ℕ → Type 0
  HasBits false a width x = (index a.gate ≡ x) × (width_at plan.gates a.gate ≡ width)
  HasBits true a width x = HasKeys plan.gates numbers a width x

  pub has_bits : (keys : Bool) (bound : ℕ) (a : Wire) (width x : ℕ) → AreBits keys plan.gates bound a width →
      IsNumberOf keys numbers a x → HasBits keys a width x
  has_bits false bound a width x is e = (index_at numbers a.gate x e, value_width is)
  has_bits true bound a width x is (mask, online, first, second, whole) = record {
    mask_width = value_width is.mask;
    online_width = value_width is.online;
    mask_there = first ∙ ap (λ (k : ℕ). Some k) (sym (index_at numbers a.mask mask first));
    online_there = second ∙ ap (λ (k : ℕ). Some k) (sym (index_at numbers a.gate online second));
    mask_small = small is.mask;
    online_small = small is.online;
    is = ap₂ bit_xor (index_at numbers a.mask mask first) (index_at numbers a.gate online second) ∙ sym whole;
  }

  -- one gate whose number, before it is cut, is another
  pub one_made : (n w : ℕ) (kind : Kind) (number : ℕ) → Stand plan.gates n (one n w kind).gates →
      number ≡ number_of kind (seen_of plan.gates outside numbers kind) →
      slice_get numbers n ≡ Some (number % 2 ^ w)
  one_made n w kind number stand is =
      are n (gate_of kind w) (first_of plan.gates n (gate_of kind w) [] stand) ∙ ap (λ (k : ℕ). Some (k % 2 ^ w)) (sym is)

  -- a mask and masked bits whose numbers, before they are cut, have this XOR
  pub two_made : (n w : ℕ) (mask online : Kind) (number : ℕ) → Stand plan.gates n (two n w mask online).gates →
      number ≡ bit_xor (number_of mask (seen_of plan.gates outside numbers mask))
      (number_of online (seen_of plan.gates outside numbers online)) →
      IsNumberOf true numbers (two n w mask online).wire (number % 2 ^ w)
  two_made n w mask online number stand is = (
    number_of mask (seen_of plan.gates outside numbers mask) % 2 ^ w,
    number_of online (seen_of plan.gates outside numbers online) % 2 ^ w,
    are n (gate_of mask w) (first_of plan.gates n (gate_of mask w) (gate_of online w ∷ []) stand),
    are (n + 1) (gate_of online w) (stand 1 (gate_of online w) refl),
    ap (λ k. k % 2 ^ w) is
        ∙ xor_mod (number_of mask (seen_of plan.gates outside numbers mask))
        (number_of online (seen_of plan.gates outside numbers online)) w,
  )

  pub entered_made : (keys : Bool) (n w party k at : ℕ) → Stand plan.gates n (entered keys n w party k at).gates →
      IsNumberOf keys numbers (entered keys n w party k at).wire (slice_index outside.inputs k / 2 ^ at % 2 ^ w)
  entered_made false n w party k at stand = one_made n w (InB party k at) (slice_index outside.inputs k / 2 ^ at) stand refl
  entered_made true n w party k at stand =
      two_made n w KeyMask (InOnline party k at n) (slice_index outside.inputs k / 2 ^ at) stand
      (sym (xor_zero_l (slice_index outside.inputs k / 2 ^ at)))

  pub constant_made : (keys : Bool) (n w c : ℕ) → Stand plan.gates n (constant keys n w c).gates →
      IsNumberOf keys numbers (constant keys n w c).wire (c % 2 ^ w)
  constant_made false n w c stand = one_made n w (ConstB c) c stand refl
  constant_made true n w c stand =
      two_made n w (ConstMask c) ZeroOnline c stand (sym (xor_comm c 0 ∙ xor_zero_l c))

  pub xored_made : (keys : Bool) (n w : ℕ) (a b : Wire) (low high x y : ℕ) → Stand plan.gates n (xored keys n w a b).gates →
      HasBits keys a low x → HasBits keys b high y → IsNumberOf keys numbers (xored keys n w a b).wire (bit_xor x y % 2 ^ w)
  xored_made false n w a b low high x y stand p q =
      one_made n w (XorB a.gate b.gate) (bit_xor x y) stand (ap₂ bit_xor (sym p.0) (sym q.0))
  xored_made true n w a b low high x y stand p q =
      two_made n w (XorMask a.mask b.mask) (XorOnline a.gate b.gate) (bit_xor x y) stand
      (ap₂ bit_xor (sym p.is) (sym q.is) ∙ four (index a.mask) (index a.gate) (index b.mask) (index b.gate))

  pub anded_made : (keys : Bool) (n w : ℕ) (a b : Wire) (low high x y : ℕ) → Stand plan.gates n (anded keys n w a b).gates →
      HasBits keys a low x → HasBits keys b high y → IsNumberOf keys numbers (anded keys n w a b).wire (bit_and x y % 2 ^ w)
  anded_made false n w a b low high x y stand p q =
      one_made n w (AndB a.gate b.gate) (bit_and x y) stand (ap₂ bit_and (sym p.0) (sym q.0))
  anded_made true n w a b low high x y stand p q =
      let table : Gate = gate_of (Garble a.mask b.mask n) w in
      let result : Gate = gate_of (EvalY (n + 1) a.gate b.gate) w in
      let second = stand 1 table refl in
      let gates = plan.gates in
      let left : slice_index numbers a.gate ≡ slice_index numbers a.gate = refl in (
        0 % 2 ^ w,
        bit_and x y % 2 ^ w,
        are n (gate_of KeyMask w) (first_of plan.gates n (gate_of KeyMask w) (table ∷ result ∷ []) stand),
        are (n + 2) result (stand 2 result refl) ∙ ap (λ (k : ℕ). Some (k % 2 ^ w)) (number second),
        whole (bit_and x y % 2 ^ w),
      )
    where
      -- the masks of the table are those of its gate
      number : slice_get plan.gates (n + 1) ≡ Some (gate_of (Garble a.mask b.mask n) w) →
          number_of (EvalY (n + 1) a.gate b.gate) (seen_of plan.gates outside numbers (EvalY (n + 1) a.gate b.gate))
          ≡ bit_and x y
      number second =
          rw second (ap₂ bit_and (xor_comm (index a.gate) (index a.mask) ∙ p.is) (xor_comm (index b.gate) (index b.mask) ∙ q.is))

      zero_mod : 0 % 2 ^ w ≡ 0
      zero_mod = mod-eq_of_lt (pow_pos w)

      whole : (k : ℕ) → k ≡ bit_xor (0 % 2 ^ w) k
      whole k = sym (ap (λ z. bit_xor z k) zero_mod ∙ xor_zero_l k)

  pub flipped_made : (keys : Bool) (n w : ℕ) (a : Wire) (c low x : ℕ) → Stand plan.gates n (flipped keys n w a c).gates →
      HasBits keys a low x → IsNumberOf keys numbers (flipped keys n w a c).wire (bit_xor x c % 2 ^ w)
  flipped_made false n w a c low x stand p =
      one_made n w (XorConstB a.gate c) (bit_xor x c) stand (ap (λ k. bit_xor k c) (sym p.0))
  flipped_made true n w a c low x stand p =
      let gate : Gate = gate_of (FlipMask a.mask c) w in
      let same : low ≡ w = sym p.mask_width ∙ (valid.each n gate (first_of plan.gates n gate [] stand)).fit.0 in
      let P : ℕ → Type 0 = λ k. index a.gate < 2 ^ k in
      let little : index a.gate < 2 ^ w = subst P same p.online_small in (
        bit_xor (index a.mask) c % 2 ^ w,
        index a.gate,
        are n gate (first_of plan.gates n gate [] stand),
        p.online_there,
        ap (λ k. k % 2 ^ w) (ap (λ k. bit_xor k c) (sym p.is)
            ∙ (xor_assoc (index a.mask) (index a.gate) c
            ∙ (ap (bit_xor (index a.mask)) (xor_comm (index a.gate) c) ∙ sym (xor_assoc (index a.mask) c (index a.gate)))))
            ∙ (xor_mod (bit_xor (index a.mask) c) (index a.gate) w
            ∙ (ap (bit_xor (bit_xor (index a.mask) c % 2 ^ w)) (mod-eq_of_lt little))),
      )

  pub sliced_made : (keys : Bool) (n w : ℕ) (a : Wire) (at low x : ℕ) → Stand plan.gates n (sliced keys n w a at).gates →
      HasBits keys a low x → IsNumberOf keys numbers (sliced keys n w a at).wire (x / 2 ^ at % 2 ^ w)
  sliced_made false n w a at low x stand p =
      one_made n w (SliceB a.gate at) (x / 2 ^ at) stand (ap (λ k. k / 2 ^ at) (sym p.0))
  sliced_made true n w a at low x stand p =
      two_made n w (SliceMask a.mask at) (SliceOnline a.gate at) (x / 2 ^ at) stand
      (ap (λ k. k / 2 ^ at) (sym p.is) ∙ xor_shr (index a.mask) (index a.gate) at)

  pub joined_made : (keys : Bool) (n w : ℕ) (a b : Wire) (low high x y : ℕ) → Stand plan.gates n (joined keys n w a b).gates →
      HasBits keys a low x → HasBits keys b high y →
      IsNumberOf keys numbers (joined keys n w a b).wire ((x + 2 ^ low * y) % 2 ^ w)
  joined_made false n w a b low high x y stand p q =
      one_made n w (JoinB a.gate b.gate) (x + 2 ^ low * y) stand
      (ap₂ (λ k l. k + l) (sym p.0) (ap₂ (λ l k. 2 ^ l * k) (sym p.1) (sym q.0)))
  joined_made true n w a b low high x y stand p q =
      two_made n w (JoinMask a.mask b.mask) (JoinOnline a.gate b.gate) (x + 2 ^ low * y) stand
      (ap₂ (λ k l. k + 2 ^ low * l) (sym p.is) (sym q.is)
      ∙ (sym (join_xor low (index a.mask) (index b.mask) (index a.gate) (index b.gate) p.mask_small p.online_small)
      ∙ ap₂ (λ l m. bit_xor (index a.mask + 2 ^ l * index b.mask) (index a.gate + 2 ^ m * index b.gate))
      (sym p.mask_width) (sym p.online_width)))

  -- the number of a vector that is made of a wire
  pub vector_made : (n w : ℕ) (a : Wire) (low x : ℕ) → Stand plan.gates n (one n w (YToB a.mask a.gate)).gates →
      HasBits true a low x → IsNumberOf false numbers (one n w (YToB a.mask a.gate)).wire (x % 2 ^ w)
  vector_made n w a low x stand p = one_made n w (YToB a.mask a.gate) x stand (sym p.is)

  -- and of what is told
  pub told_made : (keys : Bool) (n w : ℕ) (a : Wire) (to : Receiver) (low x : ℕ) → Stand plan.gates n (told keys n w a to).gates →
      HasBits keys a low x → IsNumberOf false numbers (told keys n w a to).wire (x % 2 ^ w)
  told_made false n w a to low x stand p = one_made n w (OutB a.gate to) x stand (sym p.0)
  told_made true n w a to low x stand p =
      let vector : Gate = gate_of (YToB a.mask a.gate) w in
      let output : Gate = gate_of (OutB n to) w in
      let first : slice_get numbers n ≡ Some (bit_xor (index a.mask) (index a.gate) % 2 ^ w) =
      are n vector (first_of plan.gates n vector (output ∷ []) stand) in
      are (n + 1) output (stand 1 output refl)
      ∙ ap (λ (k : ℕ). Some (k % 2 ^ w)) (index_at numbers n _ first)
      ∙ (ap (λ (k : ℕ). Some k) (mod-mod (bit_xor (index a.mask) (index a.gate)) (2 ^ w)) ∙ ap (λ (k : ℕ). Some (k % 2 ^ w)) p.is)

  -- ---- wires whose gates stand

  there_small : (g w : ℕ) (kind : Kind) → slice_get plan.gates g ≡ Some (gate_of kind w) → index g < 2 ^ w
  there_small g w kind there =
      subst (λ k. k < 2 ^ w) (sym (index_at numbers g _ (are g (gate_of kind w) there))) (mod-lt _ (pow_pos w))

  there_wide : (g w : ℕ) (kind : Kind) → slice_get plan.gates g ≡ Some (gate_of kind w) → width_at plan.gates g ≡ w
  there_wide g w kind there = rw there refl

  keys_there : (a : Wire) (w x : ℕ) (mask online : Kind) → slice_get plan.gates a.mask ≡ Some (gate_of mask w) →
      slice_get plan.gates a.gate ≡ Some (gate_of online w) → IsNumberOf true numbers a x → HasKeys plan.gates numbers a w x
  keys_there a w x mask online first second (m, o, f, g, whole) = record {
    mask_width = there_wide a.mask w mask first;
    online_width = there_wide a.gate w online second;
    mask_there = f ∙ ap (λ (k : ℕ). Some k) (sym (index_at numbers a.mask m f));
    online_there = g ∙ ap (λ (k : ℕ). Some k) (sym (index_at numbers a.gate o g));
    mask_small = there_small a.mask w mask first;
    online_small = there_small a.gate w online second;
    is = ap₂ bit_xor (index_at numbers a.mask m f) (index_at numbers a.gate o g) ∙ sym whole;
  }

  pub two_has : (n w x : ℕ) (mask online : Kind) → Stand plan.gates n (two n w mask online).gates →
      IsNumberOf true numbers (two n w mask online).wire x → HasKeys plan.gates numbers (two n w mask online).wire w x
  two_has n w x mask online stand is =
      keys_there (two n w mask online).wire w x mask online
      (first_of plan.gates n (gate_of mask w) (gate_of online w ∷ []) stand)
      (stand 1 (gate_of online w) refl) is

  pub sliced_has : (n w : ℕ) (a : Wire) (at low x : ℕ) → Stand plan.gates n (sliced true n w a at).gates →
      HasKeys plan.gates numbers a low x → HasKeys plan.gates numbers (sliced true n w a at).wire w (x / 2 ^ at % 2 ^ w)
  sliced_has n w a at low x stand p =
      two_has n w _ (SliceMask a.mask at) (SliceOnline a.gate at) stand (sliced_made true n w a at low x stand p)

  pub xored_has : (n w : ℕ) (a b : Wire) (low high x y : ℕ) → Stand plan.gates n (xored true n w a b).gates →
      HasKeys plan.gates numbers a low x → HasKeys plan.gates numbers b high y →
      HasKeys plan.gates numbers (xored true n w a b).wire w (bit_xor x y % 2 ^ w)
  xored_has n w a b low high x y stand p q =
      two_has n w _ (XorMask a.mask b.mask) (XorOnline a.gate b.gate) stand (xored_made true n w a b low high x y stand p q)

  pub joined_has : (n w : ℕ) (a b : Wire) (low high x y : ℕ) → Stand plan.gates n (joined true n w a b).gates →
      HasKeys plan.gates numbers a low x → HasKeys plan.gates numbers b high y →
      HasKeys plan.gates numbers (joined true n w a b).wire w ((x + 2 ^ low * y) % 2 ^ w)
  joined_has n w a b low high x y stand p q =
      two_has n w _ (JoinMask a.mask b.mask) (JoinOnline a.gate b.gate) stand (joined_made true n w a b low high x y stand p q)

  pub anded_has : (n w : ℕ) (a b : Wire) (low high x y : ℕ) → Stand plan.gates n (anded true n w a b).gates →
      HasKeys plan.gates numbers a low x → HasKeys plan.gates numbers b high y →
      HasKeys plan.gates numbers (anded true n w a b).wire w (bit_and x y % 2 ^ w)
  anded_has n w a b low high x y stand p q =
      let table : Gate = gate_of (Garble a.mask b.mask n) w in
      let result : Gate = gate_of (EvalY (n + 1) a.gate b.gate) w in
      keys_there (anded true n w a b).wire w _ KeyMask (EvalY (n + 1) a.gate b.gate)
      (first_of plan.gates n (gate_of KeyMask w) (table ∷ result ∷ []) stand) (stand 2 result refl)
      (anded_made true n w a b low high x y stand p q)

  -- a number fits the width of its wire
  pub has_small : (a : Wire) (w x : ℕ) → HasKeys plan.gates numbers a w x → x < 2 ^ w
  has_small a w x p =
      subst (λ k. k < 2 ^ w) p.is (xor_lt w (index a.mask) (index a.gate) p.mask_small p.online_small)

  pub has_number : (a : Wire) (w x : ℕ) → HasKeys plan.gates numbers a w x → IsNumberOf true numbers a x
  has_number a w x p = (index a.mask, index a.gate, p.mask_there, p.online_there, sym p.is)
