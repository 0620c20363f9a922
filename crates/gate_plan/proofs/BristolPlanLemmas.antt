-- The gates and the wires of a circuit in Bristol Fashion, one gate of the circuit after another.
use Rattle.std.proofs.Common.{ℕ, zero, suc, ◌≡◌, ◌<◌, ◌≤◌, ◌+◌, ◌-◌, ◌*◌, Bool, true, nat_lt, List, ◌++◌, length, get_or, Option, Some, None, inl, inr, refl, sym, ◌∙◌, ap, subst, arith}
use Rattle.std.specs.Prelude.{◌==◌, slice_get, slice_index, sum}
use Rattle.std.specs.Option.{unwrap_or}
use Rattle.std.specs.List.{list_all, AllByRecursion}
use Rattle.std.proofs.lemmas.Bool.{and_parts, eqb-true, cases_lt}
use Rattle.std.proofs.lemmas.List.{length-append}
use Rattle.mot_base.proofs.Lists.{inside_of, before_at, behind_at, all_append}
use Rattle.share_types.proofs.Parties.{length-each}
use Rattle.share_types.specs.declared.receiver.Receiver.TheVariants.{All}
use Rattle.bristol_reader.specs.declared.kind.BristolKind.{BristolKind}
use Rattle.bristol_reader.specs.declared.kind.BristolKind.TheVariants.{Eq, Eqw}
use Rattle.bristol_reader.specs.Kinds.{is_arity, is_constant}
use Rattle.bristol_reader.specs.Circuit as bristol
use Rattle.bristol_reader.specs.Circuit.{Circuit, is_set, are_apart}
use Rattle.bristol_reader.specs.Line.{input_bound}
use Rattle.bristol_reader.specs.Built.{FitsBehind, first_gates}
use Rattle.bristol_reader.proofs.BoolLemmas.{below_at}
use Rattle.bristol_reader.proofs.EvalLemmas.{set_not_among}
use Rattle.plan_gates.specs.Gate.{Gate}
use Rattle.plan_gates.proofs.NeedsLemmas.{slice_get-each}
use Rattle.gate_plan.specs.declared.wire.Wire.{Wire}
use Rattle.gate_plan.specs.Blocks.{Lowered, single, wire_among, told, Stand}
use Rattle.gate_plan.specs.Bristol.{gates_of_end, gates_of_gate, bristol_gates_before, all_bristol_gates, entry_wire, input_gates, output_wire, gates_made, wires_made, wired_before, output_gates, bristol_lowered}
use Rattle.gate_plan.proofs.NumberLemmas.{IsSilent}
use Rattle.gate_plan.proofs.StandLemmas.{grown, stand_behind, length_row}
use Rattle.gate_plan.proofs.BristolBitLemmas.{told_size, length_kind, kind_silent}
use Rattle.gate_plan.proofs.BristolInputLemmas.{length_inputs, silent_inputs}
use Rattle.gate_plan.proofs.BristolWireLemmas.{length_rewired, rewired_out, rewired_other}

-- ---- how many gates

pub length_made : (keys : Bool) (before : Lowered) (o : Option bristol.Gate) →
    length (gates_made keys before o) ≡ gates_of_gate keys o
length_made keys before None = refl
length_made keys before (Some g) =
    length_kind keys g.kind (λ i. wire_among before.wires (slice_index g.ins i)) (slice_index g.ins 0) (length g.outs)
    (length before.gates)

pub length_wired : (keys : Bool) (parties : ℕ) (c : Circuit) (n : ℕ) →
    length (wired_before keys parties c n).gates ≡ gates_of_end keys * sum c.inputs + bristol_gates_before keys c.gates n
length_wired keys parties c zero = let all = length_inputs keys parties 0 0 c.inputs in omega arith
length_wired keys parties c (suc n) =
    let v = wired_before keys parties c n in
    let before = length_wired keys parties c n in
    let both = length-append v.gates (gates_made keys v (slice_get c.gates n)) in
    let more = length_made keys v (slice_get c.gates n) in
    omega arith

pub length_outputs : (keys : Bool) (wires : List Wire) (n from count : ℕ) →
    length (output_gates keys wires n from count) ≡ gates_of_end keys * count
length_outputs keys wires n from count =
    length_row (gates_of_end keys) count
    (λ j. (told keys (n + gates_of_end keys * j) 1 (wire_among wires (from + j)) All).gates)
    (λ j. told_size keys (n + gates_of_end keys * j) 1 (wire_among wires (from + j)) All)

pub length_lowered : (keys : Bool) (parties : ℕ) (c : Circuit) → length (bristol_lowered keys parties c).gates
    ≡ all_bristol_gates keys c
length_lowered keys parties c =
    let v = wired_before keys parties c (length c.gates) in
    let both = length-append v.gates
    (output_gates keys v.wires (length v.gates) (c.wires - sum c.outputs) (sum c.outputs)) in
    let first = length_wired keys parties c (length c.gates) in
    let second = length_outputs keys v.wires (length v.gates) (c.wires - sum c.outputs) (sum c.outputs) in
    omega arith

-- the gates before a place are no more than those before a later one
pub gates_mono : (keys : Bool) (gates : List bristol.Gate) (n m : ℕ) → n ≤ m →
    bristol_gates_before keys gates n ≤ bristol_gates_before keys gates m
gates_mono keys gates n zero h = let e : n ≡ 0 = omega arith in
    subst (λ k. bristol_gates_before keys gates k ≤ bristol_gates_before keys gates 0) (sym e)
    (omega arith)
gates_mono keys gates n (suc m) h =
    elim (cases_lt n (suc m)) as
    (λ _. bristol_gates_before keys gates n ≤ bristol_gates_before keys gates (suc m)) [
      | inl small ↦ (let before = gates_mono keys gates n m (omega (arith, small)) in omega arith)
      | inr large ↦
          (let e : n ≡ suc m = omega (arith, h, large) in
          subst (λ k. bristol_gates_before keys gates k ≤ bristol_gates_before keys gates (suc m)) (sym e)
          (omega arith))
    ]

-- each wire has a wire
pub wires_count : (keys : Bool) (parties : ℕ) (c : Circuit) (n : ℕ) → length (wired_before keys parties c n).wires ≡ c.wires
wires_count keys parties c zero = length-each c.wires (entry_wire keys)
wires_count keys parties c (suc n) = same (wired_before keys parties c n) (slice_get c.gates n)
    ∙ wires_count keys parties c n
  where
    same : (v : Lowered) (o : Option bristol.Gate) → length (wires_made keys v o) ≡ length v.wires
    same v None = refl
    same v (Some g) =
        length_rewired v.wires g.outs
        (output_wire keys g.kind (wire_among v.wires (slice_index g.ins 0)) (length v.gates)) 0

-- ---- only outputs tell

silent_made : (keys : Bool) (v : Lowered) (o : Option bristol.Gate) → AllByRecursion IsSilent (gates_made keys v o)
silent_made keys v None = tt
silent_made keys v (Some g) =
    kind_silent keys g.kind (λ i. wire_among v.wires (slice_index g.ins i)) (slice_index g.ins 0) (length g.outs)
    (length v.gates)

pub silent_wired : (keys : Bool) (parties : ℕ) (c : Circuit) (n : ℕ) →
    AllByRecursion IsSilent (wired_before keys parties c n).gates
silent_wired keys parties c zero = silent_inputs keys parties 0 0 c.inputs
silent_wired keys parties c (suc n) =
    let v = wired_before keys parties c n in
    all_append IsSilent v.gates (gates_made keys v (slice_get c.gates n)) (silent_wired keys parties c n)
    (silent_made keys v (slice_get c.gates n))

-- ---- the gates stay where they are

wired_kept : (keys : Bool) (parties : ℕ) (c : Circuit) (n i : ℕ) (gate : Gate) → n ≤ length c.gates →
    slice_get (wired_before keys parties c n).gates i ≡ Some gate →
    slice_get (bristol_lowered keys parties c).gates i ≡ Some gate
wired_kept keys parties c n i gate h e =
    let all = wired_before keys parties c (length c.gates) in
    let there =
    grown (λ m. (wired_before keys parties c m).gates)
    (λ m. (gates_made keys (wired_before keys parties c m) (slice_get c.gates m), refl)) n
    (length c.gates) i gate h e in
    let within = inside_of all.gates i gate there in
    before_at all.gates (output_gates keys all.wires (length all.gates) (c.wires - sum c.outputs) (sum c.outputs)) i within
    ∙ there

-- those of input wires
pub inputs_stand : (keys : Bool) (parties : ℕ) (c : Circuit) →
    Stand (bristol_lowered keys parties c).gates 0 (input_gates keys parties 0 0 c.inputs)
inputs_stand keys parties c i gate e =
    let place : i ≡ 0 + i = omega arith in
    subst (λ k. slice_get (bristol_lowered keys parties c).gates k ≡ Some gate) place
    (wired_kept keys parties c 0 i gate (omega arith) e)

-- those of a gate of the circuit
pub made_stand : (keys : Bool) (parties : ℕ) (c : Circuit) (n : ℕ) (g : bristol.Gate) → slice_get c.gates n ≡ Some g →
    Stand (bristol_lowered keys parties c).gates (length (wired_before keys parties c n).gates)
    (gates_made keys (wired_before keys parties c n) (Some g))
made_stand keys parties c n g there i gate e =
    let v = wired_before keys parties c n in
    let few = inside_of c.gates n g there in
    wired_kept keys parties c (suc n) (length v.gates + i) gate (omega (arith, few))
    (ap (λ o. slice_get (v.gates ++ gates_made keys v o) (length v.gates + i)) there
    ∙ (behind_at v.gates (gates_made keys v (Some g)) i ∙ e))

-- and those of the outputs
pub outputs_stand : (keys : Bool) (parties : ℕ) (c : Circuit) →
    Stand (bristol_lowered keys parties c).gates (length (wired_before keys parties c (length c.gates)).gates)
    (output_gates keys (wired_before keys parties c (length c.gates)).wires
    (length (wired_before keys parties c (length c.gates)).gates) (c.wires - sum c.outputs) (sum c.outputs))
outputs_stand keys parties c =
    let v = wired_before keys parties c (length c.gates) in
    stand_behind v.gates (output_gates keys v.wires (length v.gates) (c.wires - sum c.outputs) (sum c.outputs))

-- ---- the wires of a gate's inputs and outputs

-- what is no wire is the only input
pub fixed_input : (kind : BristolKind) (ins outs : ℕ) → is_arity kind ins outs ≡ true →
    is_constant kind ≡ true → ins ≡ 1
fixed_input Eq ins outs arity e = eqb-true ins 1 (and_parts (ins == 1) (outs == 1) arity).0
fixed_input _ ins outs arity e = cc

-- and so is what is copied
pub one_input : (kind : BristolKind) (ins outs : ℕ) → is_arity kind ins outs ≡ true → kind ≡ Eqw → ins ≡ 1
one_input Eqw ins outs arity e = eqb-true ins 1 (and_parts (ins == 1) (outs == 1) arity).0
one_input _ ins outs arity e = cc

-- each output of a gate is a wire of the circuit
pub outs_below : (c : Circuit) (n : ℕ) (g : bristol.Gate) → FitsBehind (first_gates n c) g →
    (j : ℕ) → j < length g.outs → get_or g.outs j 0 < c.wires
outs_below c n g fits j h =
    below_at c.wires g.outs j
    (and_parts (list_all (λ x. nat_lt x (input_bound g.kind c.wires)) g.ins)
    (list_all (λ w. nat_lt w c.wires) g.outs) fits.range).1 h

-- an output of a gate has the wire that the gate makes
pub out_wire : (keys : Bool) (parties : ℕ) (c : Circuit) (n : ℕ) (g : bristol.Gate) → FitsBehind (first_gates n c) g →
    (i : ℕ) → i < length g.outs →
    wire_among (wires_made keys (wired_before keys parties c n) (Some g)) (get_or g.outs i 0)
    ≡ output_wire keys g.kind (wire_among (wired_before keys parties c n).wires (slice_index g.ins 0))
    (length (wired_before keys parties c n).gates) i
out_wire keys parties c n g fits i h =
    let v = wired_before keys parties c n in
    let made : ℕ → Wire = output_wire keys g.kind (wire_among v.wires (slice_index g.ins 0)) (length v.gates) in
    let place : 0 + i ≡ i = omega arith in
    let count = wires_count keys parties c n in
    rewired_out v.wires g.outs made 0 i (and_parts _ (are_apart g.outs) fits.once).1 h
    (λ j within. let low = outs_below c n g fits j within in omega (arith, low, count))
    ∙ ap made place

-- and a wire that was set keeps its own
pub earlier_wire : (keys : Bool) (parties : ℕ) (c : Circuit) (n : ℕ) (g : bristol.Gate) → FitsBehind (first_gates n c) g →
    (w : ℕ) → is_set (first_gates n c) w ≡ true →
    wire_among (wires_made keys (wired_before keys parties c n) (Some g)) w
    ≡ wire_among (wired_before keys parties c n).wires w
earlier_wire keys parties c n g fits w set =
    let v = wired_before keys parties c n in
    rewired_other v.wires g.outs
    (output_wire keys g.kind (wire_among v.wires (slice_index g.ins 0)) (length v.gates)) 0 w
    (set_not_among (first_gates n c) g w fits.once set)

-- the wire of an input wire is that of its own gates
pub input_own : (keys : Bool) (parties : ℕ) (c : Circuit) (w : ℕ) → w < c.wires →
    wire_among (wired_before keys parties c 0).wires w ≡ entry_wire keys w
input_own keys parties c w h = ap (λ o. unwrap_or o (single 0)) (slice_get-each c.wires (entry_wire keys) w h)
