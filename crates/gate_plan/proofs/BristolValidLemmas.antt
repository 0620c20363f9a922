-- The plan of a circuit in Bristol Fashion is valid.
use Rattle.std.proofs.Common.{ℕ, zero, suc, ◌≡◌, ◌<◌, ◌≤◌, ◌+◌, ◌-◌, ◌*◌, ◌%◌, Bool, true, false, cond, ◌||◌, nat_lt, List, [], ◌++◌, length, get_or, Option, Some, None, inl, inr, refl, sym, ◌∙◌, ap, subst, arith}
use Rattle.std.specs.Prelude.{slice_get, slice_index, sum}
use Rattle.std.specs.List.{list_all}
use Rattle.std.proofs.Math.Nat.{mod-lt}
use Rattle.std.proofs.lemmas.Bool.{and_parts, or_cases}
use Rattle.std.proofs.lemmas.List.{length-append}
use Rattle.std.proofs.lemmas.Option.{slice_get-get_or, get_or_from_slice_get}
use Rattle.mot_base.specs.Limits.{least_parties, most_parties, most_gates}
use Rattle.mot_base.proofs.Lists.{inside_of}
use Rattle.share_types.specs.declared.receiver.Receiver.TheVariants.{All}
use Rattle.bristol_reader.specs.declared.kind.BristolKind.TheVariants.{Xor}
use Rattle.bristol_reader.specs.Kinds.{is_constant}
use Rattle.bristol_reader.specs.Circuit as bristol
use Rattle.bristol_reader.specs.Circuit.{Circuit, is_among, is_set}
use Rattle.bristol_reader.specs.Line.{input_bound}
use Rattle.bristol_reader.specs.Stored.{a_gate}
use Rattle.bristol_reader.specs.Built.{FitsBehind, IsCircuit, first_gates}
use Rattle.bristol_reader.proofs.BoolLemmas.{below_at}
use Rattle.bristol_reader.proofs.EvalLemmas.{in_set, set_next, among_place, input_alone, all_set, output_set}
use Rattle.plan_gates.specs.Gate.{Gate}
use Rattle.plan_gates.specs.Plan.{Gates, IsGate, IsPlan}
use Rattle.gate_plan.specs.declared.wire.Wire.{Wire}
use Rattle.gate_plan.specs.Blocks.{Lowered, wire_among, entered, told}
use Rattle.gate_plan.specs.Bristol.{gates_of_end, gates_of_kind, all_bristol_gates, entry_wire, gates_made, wires_made, wired_before, output_gates, bristol_lowered}
use Rattle.gate_plan.proofs.StandLemmas.{AreBits, later_bits, AllGates, all_none, all_both, stand_row, all_row}
use Rattle.gate_plan.proofs.BlockLemmas.{entered_fits, told_fits}
use Rattle.gate_plan.proofs.BristolBitLemmas.{entered_size, told_size, KindFits, kind_fits}
use Rattle.gate_plan.proofs.BristolInputLemmas.{length_inputs, entry_found, entry_is, inputs_fit}
use Rattle.gate_plan.proofs.BristolPlanLemmas.{fixed_input, length_made, length_lowered, inputs_stand, made_stand, outputs_stand, out_wire, earlier_wire, input_own}

-- the one input of a gate that is no wire is 0 or 1
pub constant_small : (c : Circuit) (n : ℕ) (g : bristol.Gate) → FitsBehind (first_gates n c) g →
    is_constant g.kind ≡ true → slice_index g.ins 0 < 2
constant_small c n g fits e =
    let one = fixed_input g.kind (length g.ins) (length g.outs) fits.arity e in
    let range =
    (and_parts (list_all (λ y. nat_lt y (input_bound g.kind c.wires)) g.ins)
    (list_all (λ w. nat_lt w c.wires) g.outs) fits.range).0 in
    let low = below_at (input_bound g.kind c.wires) g.ins 0 range (omega arith) in
    subst (λ m. slice_index g.ins 0 < m) (ap (λ (b : Bool). cond b 2 c.wires) e) low

-- each output wire is set
pub output_is_set : (c : Circuit) (j : ℕ) → IsCircuit c → j < sum c.outputs →
    is_set (first_gates (length c.gates) c) (c.wires - sum c.outputs + j) ≡ true
output_is_set c j circuit below =
    let few = circuit.built.few_outputs in
    all_set c (c.wires - sum c.outputs + j) (output_set c (c.wires - sum c.outputs + j) circuit (omega arith) (omega (arith, below, few)))

module _ (keys : Bool) (parties : ℕ) (c : Circuit) (circuit : IsCircuit c) (some : least_parties ≤ parties) where
  abbrev plan : Gates
  plan = bristol_lowered keys parties c

  abbrev wired : ℕ → Lowered
  wired n = wired_before keys parties c n

  -- the gates of each wire that is set give its bit
  abbrev pub AreGiven : ℕ → Type 0
  AreGiven n =
      (w : ℕ) → is_set (first_gates n c) w ≡ true →
      AreBits keys plan.gates (length (wired n).gates) (wire_among (wired n).wires w) 1

  inputs_given : AreGiven 0
  inputs_given w set =
      let low = input_alone c w set in
      let few = circuit.built.few_inputs in
      let size : ℕ = gates_of_end keys in
      let is = entry_found plan.gates keys parties 0 0 c.inputs w low (inputs_stand keys parties c) in
      let fits = entered_fits plan (0 + size * w) 1 (omega arith) (omega arith) keys (is.value % parties) is.value is.at
      (mod-lt is.value (omega (arith, some))) is.stands in
      let one = entered_size keys (0 + size * w) 1 (is.value % parties) is.value is.at in
      let all = length_inputs keys parties 0 0 c.inputs in
      let own : wire_among (wired 0).wires w ≡ entry_wire keys w = input_own keys parties c w (omega (arith, low, few)) in
      let b = entered keys (0 + size * w) 1 (is.value % parties) is.value is.at in
      subst (λ (a : Wire). AreBits keys plan.gates (length (wired 0).gates) a 1)
      (entry_is keys w (is.value % parties) is.value is.at ∙ sym own)
      (later_bits keys plan.gates (0 + size * w + length b.gates) (length (wired 0).gates) b.wire 1
      (let within = entry_within keys w (sum c.inputs) low in omega (arith, one, all, within)) fits.value)
    where
      entry_within : (keys : Bool) (w count : ℕ) → w < count →
          gates_of_end keys * w + gates_of_end keys ≤ gates_of_end keys * count
      entry_within false w count h = omega (arith, h)
      entry_within true w count h = omega (arith, h)

  module _ (n : ℕ) (g : bristol.Gate) (there : slice_get c.gates n ≡ Some g) (before : AreGiven n) where
    abbrev x : ℕ → Wire
    x i = wire_among (wired n).wires (slice_index g.ins i)

    fits : FitsBehind (first_gates n c) g
    fits = circuit.built.each n g there

    pub made_fits : KindFits plan (length (wired n).gates) keys g.kind x (slice_index g.ins 0) (length g.outs)
    made_fits =
        kind_fits plan (length (wired n).gates) keys g.kind x (slice_index g.ins 0) (length g.ins) (length g.outs) fits.arity
        (λ wire k within. before (slice_index g.ins k) (in_set (first_gates n c) g k fits.used wire within))
        (constant_small c n g fits) (made_stand keys parties c n g there)

    next_given : AreGiven (suc n)
    next_given w set =
        let v = wired n in
        let g0 = get_or c.gates n (a_gate Xor [] []) in
        let few = inside_of c.gates n g there in
        let same : g0 ≡ g = get_or_from_slice_get c.gates n g (a_gate Xor [] []) there in
        let known : (is_set (first_gates n c) w || is_among g.outs w) ≡ true =
        ap (λ (u : bristol.Gate). is_set (first_gates n c) w || is_among u.outs w) (sym same)
        ∙ (sym (set_next c n w few) ∙ set) in
        let bound : length (wired (suc n)).gates ≡ length v.gates + gates_of_kind keys g.kind (length g.outs) =
        ap (λ o. length (v.gates ++ gates_made keys v o)) there
        ∙ (length-append v.gates (gates_made keys v (Some g))
        ∙ ap (λ m. length v.gates + m) (length_made keys v (Some g))) in
        let P : List Wire → ℕ → Type 0 = λ ws m. AreBits keys plan.gates m (wire_among ws w) 1 in
        let given : P (wires_made keys v (Some g)) (length v.gates + gates_of_kind keys g.kind (length g.outs)) =
        elim (or_cases (is_set (first_gates n c) w) (is_among g.outs w) known) as
        (λ _. P (wires_made keys v (Some g)) (length v.gates + gates_of_kind keys g.kind (length g.outs))) [
          | inl earlier ↦
              subst (λ (a : Wire). AreBits keys plan.gates (length v.gates + gates_of_kind keys g.kind (length g.outs)) a 1)
              (sym (earlier_wire keys parties c n g fits w earlier))
              (later_bits keys plan.gates (length v.gates) (length v.gates + gates_of_kind keys g.kind (length g.outs))
              (wire_among v.wires w) 1 (omega arith) (before w earlier))
          | inr now ↦
              (let found = among_place g.outs w now in
              subst (λ (a : Wire). AreBits keys plan.gates (length v.gates + gates_of_kind keys g.kind (length g.outs)) a 1)
              (sym (out_wire keys parties c n g fits found.0 found.1)
              ∙ ap (λ k. wire_among (wires_made keys v (Some g)) k) found.2)
              (made_fits.value found.0 found.1))
        ] in
        let by_bound = subst (λ m. P (wires_made keys v (Some g)) m) (sym bound) given in
        subst (λ (o : Option bristol.Gate). P (wires_made keys v o) (length (wired (suc n)).gates)) (sym there) by_bound

  pub all_given : (n : ℕ) → n ≤ length c.gates → AreGiven n
  all_given zero h = inputs_given
  all_given (suc n) h =
      let g = get_or c.gates n (a_gate Xor [] []) in
      next_given n g (slice_get-get_or c.gates n (a_gate Xor [] []) (omega arith)) (all_given n (omega arith))

  -- ---- the gates may stand

  all_made : (n : ℕ) → n ≤ length c.gates → (o : Option bristol.Gate) → slice_get c.gates n ≡ o →
      AllGates plan (length (wired n).gates) (gates_made keys (wired n) o)
  all_made n h None e = all_none plan (length (wired n).gates)
  all_made n h (Some g) e = (made_fits n g e (all_given n h)).gates

  fit_to : (n : ℕ) → n ≤ length c.gates → AllGates plan 0 (wired n).gates
  fit_to zero h = inputs_fit plan keys 0 0 c.inputs (omega (arith, some)) (inputs_stand keys parties c)
  fit_to (suc n) h =
      let v = wired n in
      all_both plan 0 v.gates (length v.gates) (gates_made keys v (slice_get c.gates n)) (omega arith)
      (fit_to n (omega (arith, h)))
      (all_made n (omega (arith, h)) (slice_get c.gates n) refl)

  outputs_fit : AllGates plan (length (wired (length c.gates)).gates)
      (output_gates keys (wired (length c.gates)).wires (length (wired (length c.gates)).gates)
      (c.wires - sum c.outputs) (sum c.outputs))
  outputs_fit =
      let v = wired (length c.gates) in
      let from = c.wires - sum c.outputs in
      let size : ℕ = gates_of_end keys in
      let f : ℕ → List Gate = λ j. (told keys (length v.gates + gates_of_end keys * j) 1 (wire_among v.wires (from + j)) All).gates in
      let sizes : (j : ℕ) → length (f j) ≡ gates_of_end keys = λ j. told_size keys (length v.gates + gates_of_end keys * j) 1 (wire_among v.wires (from + j)) All in
      all_row plan (length v.gates) size (sum c.outputs) f sizes
      (λ j h. told_fits plan (length v.gates + size * j) 1 (omega arith) (omega arith) keys (wire_among v.wires (from + j)) All tt
      (later_bits keys plan.gates (length v.gates) (length v.gates + size * j) (wire_among v.wires (from + j)) 1 (omega arith)
      (all_given (length c.gates) (omega arith) (from + j) (output_is_set c j circuit h)))
      (stand_row plan.gates (length v.gates) size (sum c.outputs) f sizes (outputs_stand keys parties c) j h))

  pub bristol_is_plan : parties ≤ most_parties → all_bristol_gates keys c ≤ most_gates →
      IsPlan (bristol_lowered keys parties c)
  bristol_is_plan most few = record {
    some_parties = some;
    most_parties = most;
    few = (let size = length_lowered keys parties c in omega (arith, size, few));
    each = λ g gate there.
        let v = wired (length c.gates) in
        let all = all_both plan 0 v.gates (length v.gates)
        (output_gates keys v.wires (length v.gates) (c.wires - sum c.outputs) (sum c.outputs))
        (omega arith) (fit_to (length c.gates) (omega arith)) outputs_fit in
        subst (λ k. IsGate plan k gate) (omega arith) (all.each g gate there);
  }
