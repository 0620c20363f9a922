-- Lowering a circuit in Bristol Fashion keeps the plain evaluation.
use Rattle.std.proofs.Common.{ℕ, zero, suc, ◌≡◌, ◌<◌, ◌≤◌, ◌+◌, ◌-◌, ◌*◌, ◌/◌, ◌%◌, ◌^◌, Bool, true, false, not, ◌&&◌, ◌||◌, cond, List, [], ◌∷◌, ◌++◌, length, map, take, drop, get_or, Option, Some, inl, inr, refl, sym, ◌∙◌, ap, ap₂, subst, arith}
use Rattle.std.specs.Prelude.{◌==◌, slice_get, slice_index, sum, nat_le, bit_and, bit_xor}
use Rattle.std.proofs.lemmas.Bool.{and_parts, or_cases, eqb-true}
use Rattle.std.proofs.lemmas.List.{get_or-drop, get_or-take, get_or-map, length-drop, map-append, take_more}
use Rattle.std.proofs.lemmas.Option.{slice_get-get_or, get_or_from_slice_get}
use Rattle.mot_base.specs.Limits.{least_parties, most_parties, most_gates}
use Rattle.mot_base.proofs.Lists.{inside_of, index_at, take_whole}
use Rattle.share_types.specs.Bits.{once, number, bits, differ}
use Rattle.share_types.specs.declared.receiver.Receiver.TheVariants.{All}
use Rattle.bristol_reader.specs.declared.kind.BristolKind.{BristolKind}
use Rattle.bristol_reader.specs.declared.kind.BristolKind.TheVariants.{Xor, And, Inv, Eq, Eqw, Mand}
use Rattle.bristol_reader.specs.Kinds.{is_arity, is_constant, output_bit}
use Rattle.bristol_reader.specs.Circuit as bristol
use Rattle.bristol_reader.specs.Circuit.{Circuit, is_among, is_set}
use Rattle.bristol_reader.specs.Stored.{a_gate}
use Rattle.bristol_reader.specs.Built.{FitsBehind, IsCircuit, first_gates}
use Rattle.bristol_reader.specs.Table.{HaveInputWidths}
use Rattle.bristol_reader.specs.Eval.{bit_at, input_bit, AreWireBits, output_bits}
use Rattle.bristol_reader.proofs.EvalLemmas.{in_set, set_next, among_place, input_alone}
use Rattle.plan_gates.specs.Gate.{Gate}
use Rattle.plan_gates.specs.Plan.{Gates, IsPlan}
use Rattle.plan_gates.specs.Plain.{Outside, plain_numbers, GateTold, told_by}
use Rattle.gate_plan.specs.declared.wire.Wire.{Wire}
use Rattle.gate_plan.specs.Blocks.{Lowered, wire_among, anded, flipped, told, in_row, Stand, IsNumberOf}
use Rattle.gate_plan.specs.Bristol.{gates_of_end, gates_of_and, all_bristol_gates, entry_wire, kind_gates, output_wire, wires_made, wired_before, output_gates, bristol_lowered, told_bits, KeepsBristol}
use Rattle.plan_gates.proofs.PlainLemmas.{length_plain}
use Rattle.gate_plan.proofs.NumberLemmas.{told_from, told_by_place, told_append, told_nothing}
use Rattle.gate_plan.proofs.StandLemmas.{AreBits, length_row, stand_row}
use Rattle.gate_plan.proofs.ValueLemmas.{HasBits, has_bits, entered_made, constant_made, xored_made, anded_made, flipped_made, told_made}
use Rattle.gate_plan.proofs.BristolBitLemmas.{told_size, anded_size, xor_output, and_output, constant_output, mand_output}
use Rattle.gate_plan.proofs.BristolInputLemmas.{entry_found, entry_is}
use Rattle.gate_plan.proofs.BristolPlanLemmas.{silent_wired, inputs_stand, made_stand, outputs_stand, out_wire, earlier_wire, input_own}
use Rattle.gate_plan.proofs.BristolValidLemmas.{constant_small, output_is_set, all_given, bristol_is_plan}

-- ---- one gate of a circuit

xor_once : (a b : Bool) → bit_xor (once a) (once b) % 2 ^ 1 ≡ once (differ a b)
xor_once true true = refl
xor_once true false = refl
xor_once false true = refl
xor_once false false = refl

and_once : (a b : Bool) → bit_and (once a) (once b) % 2 ^ 1 ≡ once (a && b)
and_once true true = refl
and_once true false = refl
and_once false true = refl
and_once false false = refl

not_once : (a : Bool) → bit_xor (once a) 1 % 2 ^ 1 ≡ once (not a)
not_once true = refl
not_once false = refl

once_small : (a : Bool) → once a % 2 ^ 1 ≡ once a
once_small true = refl
once_small false = refl

module _ (plan : Gates) (valid : IsPlan plan) (outside : Outside) (keys : Bool) where
  abbrev pub whole : List ℕ
  whole = plain_numbers plan outside

  -- a wire has a bit, which its gates give
  pub record HasBit (bound : ℕ) (a : Wire) (b : Bool) : Type 0 where
    pub given : AreBits keys plan.gates bound a 1
    pub is : IsNumberOf keys whole a (once b)

  held : {bound : ℕ} {a : Wire} {b : Bool} → HasBit bound a b → HasBits plan valid outside keys a 1 (once b)
  held {bound} {a} {b} h = has_bits plan valid outside keys bound a 1 (once b) h.given h.is

  -- a number and a wire by other names
  renamed : {a b : Wire} {x y : ℕ} → a ≡ b → x ≡ y → IsNumberOf keys whole a x → IsNumberOf keys whole b y
  renamed {a} {b} {x} {y} same equal is =
      subst (λ (c : Wire). IsNumberOf keys whole c y) same (subst (λ k. IsNumberOf keys whole a k) equal is)

  -- the wire of an output of a gate has the output's bit
  pub made : (kind : BristolKind) (x : ℕ → Wire) (word ins outs n i : ℕ) (input : ℕ → Bool) →
      is_arity kind ins outs ≡ true → i < outs →
      (is_constant kind ≡ false → (k : ℕ) → k < ins → HasBit n (x k) (input k)) →
      (is_constant kind ≡ true → word ≡ once (input 0)) →
      Stand plan.gates n (kind_gates keys kind x word outs n) →
      IsNumberOf keys whole (output_wire keys kind (x 0) n i) (once (output_bit kind input outs i))
  made Xor x word ins outs n i input arity h given fixed stand =
      let two = eqb-true ins 2 (and_parts (ins == 2) (outs == 1) arity).0 in
      renamed (xor_output keys x n i) (xor_once (input 0) (input 1))
      (xored_made plan valid outside keys n 1 (x 0) (x 1) 1 1 (once (input 0)) (once (input 1)) stand
      (held (given refl 0 (omega arith))) (held (given refl 1 (omega arith))))
  made And x word ins outs n i input arity h given fixed stand =
      let two = eqb-true ins 2 (and_parts (ins == 2) (outs == 1) arity).0 in
      renamed (and_output keys x n i) (and_once (input 0) (input 1))
      (anded_made plan valid outside keys n 1 (x 0) (x 1) 1 1 (once (input 0)) (once (input 1)) stand
      (held (given refl 0 (omega arith))) (held (given refl 1 (omega arith))))
  made Inv x word ins outs n i input arity h given fixed stand =
      let one = eqb-true ins 1 (and_parts (ins == 1) (outs == 1) arity).0 in
      renamed {a = (flipped keys n 1 (x 0) 1).wire} refl (not_once (input 0))
      (flipped_made plan valid outside keys n 1 (x 0) 1 1 (once (input 0)) stand (held (given refl 0 (omega arith))))
  made Eq x word ins outs n i input arity h given fixed stand =
      renamed (constant_output keys x word n i) (ap (λ k. k % 2 ^ 1) (fixed refl) ∙ once_small (input 0))
      (constant_made plan valid outside keys n 1 word stand)
  made Eqw x word ins outs n i input arity h given fixed stand =
      let one = eqb-true ins 1 (and_parts (ins == 1) (outs == 1) arity).0 in
      (given refl 0 (omega arith)).is
  made Mand x word ins outs n i input arity h given fixed stand =
      let both = eqb-true ins (2 * outs) (and_parts (nat_le 1 outs) (ins == 2 * outs) arity).1 in
      let f : ℕ → List Gate = λ j. (anded keys (n + gates_of_and keys * j) 1 (x j) (x (outs + j))).gates in
      let here = stand_row plan.gates n (gates_of_and keys) outs f
      (λ j. anded_size keys (n + gates_of_and keys * j) 1 (x j) (x (outs + j))) stand i h in
      renamed (mand_output keys x outs n i) (and_once (input i) (input (outs + i)))
      (anded_made plan valid outside keys (n + gates_of_and keys * i) 1 (x i) (x (outs + i)) 1 1 (once (input i))
      (once (input (outs + i))) here
      (held (given refl i (omega (arith, h, both)))) (held (given refl (outs + i) (omega (arith, h, both)))))

-- ---- what is told

-- the gates of an output tell one bit
output_told : (numbers : List ℕ) (keys : Bool) (n : ℕ) (a : Wire) →
    told_from (told keys n 1 a All).gates n numbers
    ≡ record { to = All; bits = bits 1 (slice_index numbers (told keys n 1 a All).wire.gate) } ∷ []
output_told numbers false n a = refl
output_told numbers true n a = refl

bit_back : (t : Bool) → bits 1 (once t) ≡ t ∷ []
bit_back true = refl
bit_back false = refl

-- so many outputs tell so many bits
outputs_told : (keys : Bool) (wire : ℕ → Wire) (n : ℕ) (numbers : List ℕ) (bs : List Bool) (count : ℕ) → count ≤ length bs →
    ((j : ℕ) → j < count →
    slice_index numbers (told keys (n + gates_of_end keys * j) 1 (wire j) All).wire.gate ≡ once (get_or bs j false)) →
    told_from (in_row count (λ j. (told keys (n + gates_of_end keys * j) 1 (wire j) All).gates)) n numbers
    ≡ told_bits (take count bs)
outputs_told keys wire n numbers bs zero h is = refl
outputs_told keys wire n numbers bs (suc count) h is =
    let size : ℕ = gates_of_end keys in
    let f : ℕ → List Gate = λ j. (told keys (n + gates_of_end keys * j) 1 (wire j) All).gates in
    let many = length_row size count f (λ j. told_size keys (n + gates_of_end keys * j) 1 (wire j) All) in
    let later : count + 1 ≡ suc count = omega arith in
    let one : told_from (f count) (n + length (in_row count f)) numbers ≡ told_bits (get_or bs count false ∷ []) =
    ap (λ m. told_from (f count) (n + m) numbers) many
    ∙ (output_told numbers keys (n + size * count) (wire count)
    ∙ ap (λ (x : List Bool). record { to = All; bits = x } ∷ [])
    (ap (bits 1) (is count (omega arith)) ∙ bit_back (get_or bs count false))) in
    told_append (in_row count f) (f count) n numbers
    ∙ (ap₂ (λ (x y : List GateTold). x ++ y)
    (outputs_told keys wire n numbers bs count (omega (arith, h)) (λ j below. is j (omega (arith, below)))) one
    ∙ (sym (map-append (λ bit. record { to = All; bits = bit ∷ [] }) (take count bs) (get_or bs count false ∷ []))
    ∙ ap told_bits (sym (take_more bs count false (omega (arith, h))) ∙ ap (λ m. take m bs) later)))

-- ---- all wires

module _ (keys : Bool) (parties : ℕ) (c : Circuit) (circuit : IsCircuit c) (some : least_parties ≤ parties)
    (valid : IsPlan (bristol_lowered keys parties c)) (outside : Outside)
    (inputs : List (List Bool)) (told_bits_of : List Bool) (given : outside.inputs ≡ map number inputs)
    (widths : HaveInputWidths c inputs) (wires : AreWireBits c inputs told_bits_of) where
  abbrev plan : Gates
  plan = bristol_lowered keys parties c

  abbrev numbers : List ℕ
  numbers = plain_numbers (bristol_lowered keys parties c) outside

  abbrev wired : ℕ → Lowered
  wired n = wired_before keys parties c n

  -- the wire of a wire that is set has the wire's bit
  abbrev AreKept : ℕ → Type 0
  AreKept n =
      (w : ℕ) → is_set (first_gates n c) w ≡ true →
      IsNumberOf keys numbers (wire_among (wired n).wires w) (once (bit_at told_bits_of w))

  inputs_kept : AreKept 0
  inputs_kept w set =
      let low = input_alone c w set in
      let few = circuit.built.few_inputs in
      let size : ℕ = gates_of_end keys in
      let is = entry_found plan.gates keys parties 0 0 c.inputs w low (inputs_stand keys parties c) in
      let made_bit = entered_made plan valid outside keys (0 + size * w) 1 (is.value % parties) is.value is.at is.stands in
      let number_is : slice_index outside.inputs is.value / 2 ^ is.at % 2 ^ 1 ≡ once (bit_at told_bits_of w) =
      is.takes outside.inputs inputs widths.widths number_at_place
      ∙ ap once
      (ap (λ (bs : List Bool). get_or bs w false) (sym wires.given)
      ∙ get_or-take (sum c.inputs) told_bits_of w false low) in
      let own : wire_among (wired 0).wires w ≡ entry_wire keys w = input_own keys parties c w (omega (arith, low, few)) in
      renamed plan valid outside keys (entry_is keys w (is.value % parties) is.value is.at ∙ sym own) number_is made_bit
    where
      number_at_place : (j : ℕ) → j < length inputs →
          slice_index outside.inputs (0 + j) ≡ number (get_or inputs j [])
      number_at_place j h =
          let e : 0 + j ≡ j = omega arith in
          ap (λ (ns : List ℕ). slice_index ns (0 + j)) given
          ∙ (ap (slice_index (map number inputs)) e ∙ get_or-map number inputs j [] 0 h)

  module _ (n : ℕ) (g : bristol.Gate) (there : slice_get c.gates n ≡ Some g) (before : AreKept n) where
    abbrev v : Lowered
    v = wired n

    abbrev x : ℕ → Wire
    x i = wire_among v.wires (slice_index g.ins i)

    within : n < length c.gates
    within = inside_of c.gates n g there

    fits : FitsBehind (first_gates n c) g
    fits = circuit.built.each n g there

    has : is_constant g.kind ≡ false →
        (k : ℕ) → k < length g.ins → HasBit plan valid outside keys (length v.gates) (x k) (input_bit told_bits_of g k)
    has wired_kind k h =
        let w = slice_index g.ins k in
        let set = in_set (first_gates n c) g k fits.used wired_kind h in
        record {
          given = (let few = within in all_given keys parties c circuit some n (omega (arith, few)) w set);
          is = subst (λ (b : Bool). IsNumberOf keys numbers (x k) (once b))
              (sym (ap (λ (b : Bool). cond b (slice_index g.ins k == 1) (bit_at told_bits_of (slice_index g.ins k)))
              wired_kind)) (before w set);
        }

    fixed : is_constant g.kind ≡ true → slice_index g.ins 0 ≡ once (input_bit told_bits_of g 0)
    fixed e =
        small (slice_index g.ins 0) (constant_small c n g fits e)
        ∙ ap once
        (sym (ap (λ (b : Bool). cond b (slice_index g.ins 0 == 1) (bit_at told_bits_of (slice_index g.ins 0))) e))
      where
        small : (m : ℕ) → m < 2 → m ≡ once (m == 1)
        small zero h = refl
        small (suc zero) h = refl
        small (suc (suc m)) h = absurd (omega arith)

    out_kept : (i : ℕ) → i < length g.outs →
        IsNumberOf keys numbers (output_wire keys g.kind (x 0) (length v.gates) i)
        (once (bit_at told_bits_of (slice_index g.outs i)))
    out_kept i h =
        subst (λ (b : Bool). IsNumberOf keys numbers (output_wire keys g.kind (x 0) (length v.gates) i) (once b))
        (sym ((wires.each n g there).each i h))
        (made plan valid outside keys g.kind x (slice_index g.ins 0) (length g.ins) (length g.outs)
        (length v.gates) i (input_bit told_bits_of g) fits.arity h has fixed (made_stand keys parties c n g there))

    next_kept : AreKept (suc n)
    next_kept w set =
        let g0 = get_or c.gates n (a_gate Xor [] []) in
        let few = within in
        let same : g0 ≡ g = get_or_from_slice_get c.gates n g (a_gate Xor [] []) there in
        let known : (is_set (first_gates n c) w || is_among g.outs w) ≡ true =
        ap (λ (u : bristol.Gate). is_set (first_gates n c) w || is_among u.outs w) (sym same)
        ∙ (sym (set_next c n w few) ∙ set) in
        let P : List Wire → Type 0 = λ ws. IsNumberOf keys numbers (wire_among ws w) (once (bit_at told_bits_of w)) in
        let kept : P (wires_made keys v (Some g)) =
        elim (or_cases (is_set (first_gates n c) w) (is_among g.outs w) known) as
        (λ _. P (wires_made keys v (Some g))) [
          | inl earlier ↦
              subst (λ (a : Wire). IsNumberOf keys numbers a (once (bit_at told_bits_of w)))
              (sym (earlier_wire keys parties c n g fits w earlier)) (before w earlier)
          | inr now ↦
              (let found = among_place g.outs w now in
              subst (λ (k : ℕ). IsNumberOf keys numbers (wire_among (wires_made keys v (Some g)) k) (once (bit_at told_bits_of k)))
              found.2
              (subst (λ (a : Wire). IsNumberOf keys numbers a (once (bit_at told_bits_of (get_or g.outs found.0 0))))
              (sym (out_wire keys parties c n g fits found.0 found.1)) (out_kept found.0 found.1)))
        ] in
        subst (λ (o : Option bristol.Gate). P (wires_made keys v o)) (sym there) kept

  all_kept : (n : ℕ) → n ≤ length c.gates → AreKept n
  all_kept zero h = inputs_kept
  all_kept (suc n) h =
      let g = get_or c.gates n (a_gate Xor [] []) in
      next_kept n g (slice_get-get_or c.gates n (a_gate Xor [] []) (omega arith)) (all_kept n (omega arith))

  -- ---- the outputs

  abbrev last : Lowered
  last = wired (length c.gates)

  abbrev from : ℕ
  from = c.wires - sum c.outputs

  output_kept : (j : ℕ) → j < sum c.outputs →
      slice_index numbers
      (told keys (length last.gates + gates_of_end keys * j) 1 (wire_among last.wires (from + j)) All).wire.gate
      ≡ once (bit_at told_bits_of (from + j))
  output_kept j h =
      let size : ℕ = gates_of_end keys in
      let a : Wire = wire_among last.wires (from + j) in
      let set = output_is_set c j circuit h in
      let f : ℕ → List Gate = λ i. (told keys (length last.gates + gates_of_end keys * i) 1 (wire_among last.wires (from + i)) All).gates in
      let here = stand_row plan.gates (length last.gates) size (sum c.outputs) f
      (λ i. told_size keys (length last.gates + gates_of_end keys * i) 1 (wire_among last.wires (from + i)) All)
      (outputs_stand keys parties c) j h in
      let bit = has_bits plan valid outside keys (length last.gates) a 1 (once (bit_at told_bits_of (from + j)))
      (all_given keys parties c circuit some (length c.gates) (omega arith) (from + j) set)
      (all_kept (length c.gates) (omega arith) (from + j) set) in
      index_at numbers (told keys (length last.gates + size * j) 1 a All).wire.gate _
      (told_made plan valid outside keys (length last.gates + size * j) 1 a All 1 (once (bit_at told_bits_of (from + j))) here bit)
      ∙ once_small (bit_at told_bits_of (from + j))

  pub keeps_told : told_by plan.gates numbers ≡ told_bits (output_bits c told_bits_of)
  keeps_told =
      let m = length last.gates in
      let outs = output_gates keys last.wires m from (sum c.outputs) in
      let size = length_plain plan.gates outside (length plan.gates) in
      let cut = length-drop from told_bits_of in
      let few = circuit.built.few_outputs in
      let all_bits = wires.count in
      let place : 0 + m ≡ m = omega arith in
      told_by_place plan.gates numbers (sym size)
      ∙ (told_append last.gates outs 0 numbers
      ∙ (ap (λ (first : List GateTold). first ++ told_from outs (0 + m) numbers)
      (told_nothing last.gates 0 numbers (silent_wired keys parties c (length c.gates)))
      ∙ (ap (λ k. told_from outs k numbers) place
      ∙ (outputs_told keys (λ j. wire_among last.wires (from + j)) m numbers (drop from told_bits_of) (sum c.outputs)
      (omega (arith, cut, few, all_bits))
      (λ j h. output_kept j h ∙ ap once (sym (get_or-drop from told_bits_of j false)))
      ∙ ap told_bits (take_whole (drop from told_bits_of) (sum c.outputs) (omega (arith, cut, few, all_bits)))))))

pub keeps_bristol : (keys : Bool) (parties : ℕ) (c : Circuit) → IsCircuit c → least_parties ≤ parties →
    parties ≤ most_parties → all_bristol_gates keys c ≤ most_gates →
    KeepsBristol c (bristol_lowered keys parties c)
keeps_bristol keys parties c circuit some most few outside inputs told given widths wires =
    keeps_told keys parties c circuit some (bristol_is_plan keys parties c circuit some most few) outside inputs told given
    widths wires
