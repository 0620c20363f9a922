-- The gates of an operation on bits may stand behind those of its operands, and give its value.
use Rattle.std.proofs.Common.{ℕ, ◌≡◌, ◌<◌, ◌≤◌, ◌+◌, ◌^◌, Bool, true, false, [], ◌∷◌, length, Some, refl, arith}
use Rattle.std.specs.Prelude.{slice_get, IfSome}
use Rattle.std.specs.List.{AllByRecursion}
use Rattle.std.proofs.lemmas.Nat.{pow_pos}
use Rattle.mot_base.specs.Limits.{most_width}
use Rattle.share_types.specs.declared.receiver.Receiver.{Receiver}
use Rattle.share_types.specs.Wires.{party_told}
use Rattle.plan_gates.specs.Gate.{Kind, Gate, Vector, Mask, Online, Table, gate_of, gives, InB, ConstB, XorB, XorConstB, SliceB, JoinB, AndB, OutB, KeyMask, ConstMask, XorMask, FlipMask, SliceMask, JoinMask, InOnline, ZeroOnline, XorOnline, SliceOnline, JoinOnline, Garble, EvalY, YToB}
use Rattle.plan_gates.specs.Plan.{Gates, IsWire, enters, stays, flips, xors, slices, joins, evaluates, IsGate}
use Rattle.gate_plan.specs.declared.wire.Wire.{Wire}
use Rattle.gate_plan.specs.Blocks.{Block, two, one, entered, constant, xored, anded, flipped, sliced, joined, told, Stand}
use Rattle.gate_plan.proofs.StandLemmas.{first_of, later, value_width, value_operand, own_value, AreBits, bits_gate, AllGates, all_one, all_both}
use Rattle.gate_plan.proofs.NumberLemmas.{IsSilent}

-- gates of w bits, of which the first has the number n, may stand where they do, and give bits
pub record Fits (plan : Gates) (n w : ℕ) (block : Block) (keys : Bool) : Type 0 where
  pub gates : AllGates plan n block.gates
  pub value : AreBits keys plan.gates (n + length block.gates) block.wire w

module _ (plan : Gates) (n w : ℕ) (some : 1 ≤ w) (most : w ≤ most_width) where
  -- one gate alone
  alone_fits : (kind : Kind) → Stand plan.gates n (one n w kind).gates → gives kind ≡ Vector →
      IsGate plan n (gate_of kind w) → Fits plan n w (one n w kind) false
  alone_fits kind stand is gate = record {
    gates = all_one plan n (gate_of kind w) gate;
    value = own_value plan.gates n (gate_of kind w) Vector (first_of plan.gates n (gate_of kind w) [] stand) is;
  }

  -- a mask and the masked bits behind it
  pub two_fit : (mask online : Kind) → gives mask ≡ Mask → gives online ≡ Online →
      slice_get plan.gates n ≡ Some (gate_of mask w) → slice_get plan.gates (n + 1) ≡ Some (gate_of online w) →
      IsGate plan n (gate_of mask w) → IsGate plan (n + 1) (gate_of online w) → IsWire plan.gates n (n + 1) →
      Fits plan n w (two n w mask online) true
  two_fit mask online is_mask is_online first second fits_mask fits_online pair = record {
    gates = all_both plan n (gate_of mask w ∷ []) (n + 1) (gate_of online w ∷ []) refl
        (all_one plan n (gate_of mask w) fits_mask) (all_one plan (n + 1) (gate_of online w) fits_online);
    value = record {
      mask = later (n + 2) (omega arith) (own_value plan.gates n (gate_of mask w) Mask first is_mask);
      online = later (n + 2) (omega arith) (own_value plan.gates (n + 1) (gate_of online w) Online second is_online);
      pair = pair;
    };
  }

  pub entered_fits : (keys : Bool) (party k at : ℕ) → party < plan.parties →
      Stand plan.gates n (entered keys n w party k at).gates → Fits plan n w (entered keys n w party k at) keys
  entered_fits false party k at h stand =
      alone_fits (InB party k at) stand refl
      (bits_gate plan n (InB party k at) w (λ e. cc) some most (pow_pos w) tt tt tt h)
  entered_fits true party k at h stand =
      let first = first_of plan.gates n (gate_of KeyMask w) (gate_of (InOnline party k at n) w ∷ []) stand in
      let second = stand 1 (gate_of (InOnline party k at n) w) refl in
      let m = own_value plan.gates n (gate_of KeyMask w) Mask first refl in
      two_fit KeyMask (InOnline party k at n) refl refl first second
      (bits_gate plan n KeyMask w (λ e. cc) some most (pow_pos w) tt tt tt tt)
      (bits_gate plan (n + 1) (InOnline party k at n) w (λ e. cc) some most (pow_pos w)
      (value_operand m, tt) (value_width m, tt) (w, first) h)
      (enters n (n + 1) w party k at first second)

  pub constant_fits : (keys : Bool) (c : ℕ) → c < 2 ^ w → Stand plan.gates n (constant keys n w c).gates →
      Fits plan n w (constant keys n w c) keys
  constant_fits false c h stand =
      alone_fits (ConstB c) stand refl (bits_gate plan n (ConstB c) w (λ e. cc) some most h tt tt tt tt)
  constant_fits true c h stand =
      let first = first_of plan.gates n (gate_of (ConstMask c) w) (gate_of ZeroOnline w ∷ []) stand in
      let second = stand 1 (gate_of ZeroOnline w) refl in
      two_fit (ConstMask c) ZeroOnline refl refl first second
      (bits_gate plan n (ConstMask c) w (λ e. cc) some most h tt tt tt tt)
      (bits_gate plan (n + 1) ZeroOnline w (λ e. cc) some most (pow_pos w) tt tt tt tt)
      (stays n (n + 1) w c first second)

  pub xored_fits : (keys : Bool) (a b : Wire) → AreBits keys plan.gates n a w → AreBits keys plan.gates n b w →
      Stand plan.gates n (xored keys n w a b).gates → Fits plan n w (xored keys n w a b) keys
  xored_fits false a b x y stand =
      alone_fits (XorB a.gate b.gate) stand refl
      (bits_gate plan n (XorB a.gate b.gate) w (λ e. cc) some most (pow_pos w)
      (value_operand x, (value_operand y, tt)) (value_width x, (value_width y, tt)) tt tt)
  xored_fits true a b x y stand =
      let first = first_of plan.gates n (gate_of (XorMask a.mask b.mask) w) (gate_of (XorOnline a.gate b.gate) w ∷ []) stand in
      let second = stand 1 (gate_of (XorOnline a.gate b.gate) w) refl in
      let left = later (n + 1) (omega arith) x.online in
      let right = later (n + 1) (omega arith) y.online in
      two_fit (XorMask a.mask b.mask) (XorOnline a.gate b.gate) refl refl first second
      (bits_gate plan n (XorMask a.mask b.mask) w (λ e. cc) some most (pow_pos w)
      (value_operand x.mask, (value_operand y.mask, tt)) (value_width x.mask, (value_width y.mask, tt)) tt tt)
      (bits_gate plan (n + 1) (XorOnline a.gate b.gate) w (λ e. cc) some most (pow_pos w)
      (value_operand left, (value_operand right, tt)) (value_width left, (value_width right, tt)) tt tt)
      (xors n (n + 1) w a.mask b.mask a.gate b.gate first second x.pair y.pair)

  pub anded_fits : (keys : Bool) (a b : Wire) → AreBits keys plan.gates n a w → AreBits keys plan.gates n b w →
      Stand plan.gates n (anded keys n w a b).gates → Fits plan n w (anded keys n w a b) keys
  anded_fits false a b x y stand =
      alone_fits (AndB a.gate b.gate) stand refl
      (bits_gate plan n (AndB a.gate b.gate) w (λ e. cc) some most (pow_pos w)
      (value_operand x, (value_operand y, tt)) (value_width x, (value_width y, tt)) tt tt)
  anded_fits true a b x y stand =
      let table : Gate = gate_of (Garble a.mask b.mask n) w in
      let result : Gate = gate_of (EvalY (n + 1) a.gate b.gate) w in
      let first = first_of plan.gates n (gate_of KeyMask w) (table ∷ result ∷ []) stand in
      let second = stand 1 table refl in
      let third = stand 2 result refl in
      let m = own_value plan.gates n (gate_of KeyMask w) Mask first refl in
      let t = later (n + 2) (omega arith) (own_value plan.gates (n + 1) table Table second refl) in
      let left_mask = later (n + 1) (omega arith) x.mask in
      let right_mask = later (n + 1) (omega arith) y.mask in
      let left = later (n + 2) (omega arith) x.online in
      let right = later (n + 2) (omega arith) y.online in
      let fits_first = bits_gate plan n KeyMask w (λ e. cc) some most (pow_pos w) tt tt tt tt in
      let fits_second = bits_gate plan (n + 1) (Garble a.mask b.mask n) w (λ e. cc) some most (pow_pos w)
      (value_operand left_mask, (value_operand right_mask, (value_operand m, tt)))
      (value_width left_mask, (value_width right_mask, (value_width m, tt))) (w, first) tt in
      let fits_third = bits_gate plan (n + 2) (EvalY (n + 1) a.gate b.gate) w (λ e. cc) some most (pow_pos w)
      (value_operand t, (value_operand left, (value_operand right, tt)))
      (value_width t, (value_width left, (value_width right, tt)))
      (record { width = w; u = a.mask; v = b.mask; m = n; table = second; first = x.pair; second = y.pair }) tt in
      record {
        gates = all_both plan n (gate_of KeyMask w ∷ []) (n + 1) (table ∷ result ∷ []) refl
            (all_one plan n (gate_of KeyMask w) fits_first)
            (all_both plan (n + 1) (table ∷ []) (n + 2) (result ∷ []) (omega arith)
            (all_one plan (n + 1) table fits_second) (all_one plan (n + 2) result fits_third));
        value = record {
          mask = later (n + 3) (omega arith) m;
          online = later (n + 3) (omega arith) (own_value plan.gates (n + 2) result Online third refl);
          pair = evaluates n (n + 2) w (n + 1) a.mask b.mask a.gate b.gate first second third x.pair y.pair;
        };
      }

  pub flipped_fits : (keys : Bool) (a : Wire) (c : ℕ) → c < 2 ^ w → AreBits keys plan.gates n a w →
      Stand plan.gates n (flipped keys n w a c).gates → Fits plan n w (flipped keys n w a c) keys
  flipped_fits false a c h x stand =
      alone_fits (XorConstB a.gate c) stand refl
      (bits_gate plan n (XorConstB a.gate c) w (λ e. cc) some most h (value_operand x, tt) (value_width x, tt) tt tt)
  flipped_fits true a c h x stand =
      let gate : Gate = gate_of (FlipMask a.mask c) w in
      let first = first_of plan.gates n gate [] stand in
      record {
        gates = all_one plan n gate
            (bits_gate plan n (FlipMask a.mask c) w (λ e. cc) some most h (value_operand x.mask, tt)
            (value_width x.mask, tt) tt tt);
        value = record {
          mask = own_value plan.gates n gate Mask first refl;
          online = later (n + 1) (omega arith) x.online;
          pair = flips n a.gate w a.mask c first x.pair;
        };
      }

  pub sliced_fits : (keys : Bool) (a : Wire) (at low : ℕ) → AreBits keys plan.gates n a low → at + w ≤ low →
      Stand plan.gates n (sliced keys n w a at).gates → Fits plan n w (sliced keys n w a at) keys
  sliced_fits false a at low x within stand =
      let wide = value_width x in
      alone_fits (SliceB a.gate at) stand refl
      (bits_gate plan n (SliceB a.gate at) w (λ e. cc) some most (pow_pos w) (value_operand x, tt)
      (omega arith, tt) tt tt)
  sliced_fits true a at low x within stand =
      let first = first_of plan.gates n (gate_of (SliceMask a.mask at) w) (gate_of (SliceOnline a.gate at) w ∷ []) stand in
      let second = stand 1 (gate_of (SliceOnline a.gate at) w) refl in
      let left = later (n + 1) (omega arith) x.online in
      let wide = value_width x.mask in
      let long = value_width left in
      two_fit (SliceMask a.mask at) (SliceOnline a.gate at) refl refl first second
      (bits_gate plan n (SliceMask a.mask at) w (λ e. cc) some most (pow_pos w) (value_operand x.mask, tt)
      (omega arith, tt) tt tt)
      (bits_gate plan (n + 1) (SliceOnline a.gate at) w (λ e. cc) some most (pow_pos w) (value_operand left, tt)
      (omega arith, tt) tt tt)
      (slices n (n + 1) w a.mask a.gate at first second x.pair)

  pub joined_fits : (keys : Bool) (a b : Wire) (low high : ℕ) → AreBits keys plan.gates n a low →
      AreBits keys plan.gates n b high → w ≡ low + high → Stand plan.gates n (joined keys n w a b).gates →
      Fits plan n w (joined keys n w a b) keys
  joined_fits false a b low high x y both stand =
      let wide = value_width x in
      let long = value_width y in
      alone_fits (JoinB a.gate b.gate) stand refl
      (bits_gate plan n (JoinB a.gate b.gate) w (λ e. cc) some most (pow_pos w)
      (value_operand x, (value_operand y, tt)) (omega arith) tt tt)
  joined_fits true a b low high x y both stand =
      let first = first_of plan.gates n (gate_of (JoinMask a.mask b.mask) w) (gate_of (JoinOnline a.gate b.gate) w ∷ []) stand in
      let second = stand 1 (gate_of (JoinOnline a.gate b.gate) w) refl in
      let left = later (n + 1) (omega arith) x.online in
      let right = later (n + 1) (omega arith) y.online in
      let wide = value_width x.mask in
      let long = value_width y.mask in
      let wide_too = value_width left in
      let long_too = value_width right in
      two_fit (JoinMask a.mask b.mask) (JoinOnline a.gate b.gate) refl refl first second
      (bits_gate plan n (JoinMask a.mask b.mask) w (λ e. cc) some most (pow_pos w)
      (value_operand x.mask, (value_operand y.mask, tt)) (omega arith) tt tt)
      (bits_gate plan (n + 1) (JoinOnline a.gate b.gate) w (λ e. cc) some most (pow_pos w)
      (value_operand left, (value_operand right, tt)) (omega arith) tt tt)
      (joins n (n + 1) w a.mask b.mask a.gate b.gate first second x.pair y.pair)

  -- a wire that becomes a vector
  pub vector_fits : (a : Wire) → AreBits true plan.gates n a w →
      Stand plan.gates n (one n w (YToB a.mask a.gate)).gates → Fits plan n w (one n w (YToB a.mask a.gate)) false
  vector_fits a x stand =
      alone_fits (YToB a.mask a.gate) stand refl
      (bits_gate plan n (YToB a.mask a.gate) w (λ e. cc) some most (pow_pos w)
      (value_operand x.mask, (value_operand x.online, tt)) (value_width x.mask, (value_width x.online, tt)) x.pair tt)

  -- what is told may be told
  pub told_fits : (keys : Bool) (a : Wire) (to : Receiver) → IfSome (party_told to) (λ party. party < plan.parties) →
      AreBits keys plan.gates n a w → Stand plan.gates n (told keys n w a to).gates →
      AllGates plan n (told keys n w a to).gates
  told_fits false a to h x stand =
      all_one plan n (gate_of (OutB a.gate to) w)
      (bits_gate plan n (OutB a.gate to) w (λ e. cc) some most (pow_pos w) (value_operand x, tt) (value_width x, tt) tt h)
  told_fits true a to h x stand =
      let vector : Gate = gate_of (YToB a.mask a.gate) w in
      let first = first_of plan.gates n vector (gate_of (OutB n to) w ∷ []) stand in
      let v = own_value plan.gates n vector Vector first refl in
      all_both plan n (vector ∷ []) (n + 1) (gate_of (OutB n to) w ∷ []) refl
      (all_one plan n vector
      (bits_gate plan n (YToB a.mask a.gate) w (λ e. cc) some most (pow_pos w)
      (value_operand x.mask, (value_operand x.online, tt)) (value_width x.mask, (value_width x.online, tt)) x.pair tt))
      (all_one plan (n + 1) (gate_of (OutB n to) w)
      (bits_gate plan (n + 1) (OutB n to) w (λ e. cc) some most (pow_pos w) (value_operand v, tt) (value_width v, tt) tt h))

-- ---- gates of a value tell nothing

pub entered_silent : (keys : Bool) (n w party k at : ℕ) → AllByRecursion IsSilent (entered keys n w party k at).gates
entered_silent false n w party k at = (refl, tt)
entered_silent true n w party k at = (refl, (refl, tt))

pub constant_silent : (keys : Bool) (n w c : ℕ) → AllByRecursion IsSilent (constant keys n w c).gates
constant_silent false n w c = (refl, tt)
constant_silent true n w c = (refl, (refl, tt))

pub xored_silent : (keys : Bool) (n w : ℕ) (a b : Wire) → AllByRecursion IsSilent (xored keys n w a b).gates
xored_silent false n w a b = (refl, tt)
xored_silent true n w a b = (refl, (refl, tt))

pub anded_silent : (keys : Bool) (n w : ℕ) (a b : Wire) → AllByRecursion IsSilent (anded keys n w a b).gates
anded_silent false n w a b = (refl, tt)
anded_silent true n w a b = (refl, (refl, (refl, tt)))

pub flipped_silent : (keys : Bool) (n w : ℕ) (a : Wire) (c : ℕ) → AllByRecursion IsSilent (flipped keys n w a c).gates
flipped_silent false n w a c = (refl, tt)
flipped_silent true n w a c = (refl, tt)

pub sliced_silent : (keys : Bool) (n w : ℕ) (a : Wire) (at : ℕ) → AllByRecursion IsSilent (sliced keys n w a at).gates
sliced_silent false n w a at = (refl, tt)
sliced_silent true n w a at = (refl, (refl, tt))

pub joined_silent : (keys : Bool) (n w : ℕ) (a b : Wire) → AllByRecursion IsSilent (joined keys n w a b).gates
joined_silent false n w a b = (refl, tt)
joined_silent true n w a b = (refl, (refl, tt))
