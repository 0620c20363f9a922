use Rattle.std.proofs.Common.{ℕ, ◌≡◌, ◌+◌, ◌-◌, ◌*◌, List, length, ◌∙◌, ap, arith}
use Rattle.std.specs.Prelude.{sum}
use Rattle.share_types.specs.declared.receiver.Receiver.TheVariants.{All}
use Rattle.plan_gates.specs.Gate.{Gate}
use Rattle.gate_plan.specs.declared.wire.Wire.{Wire}
use Rattle.gate_plan.specs.Blocks.{wire_among, told}
use Rattle.gate_plan.specs.Bristol.{gates_of_end}
use Rattle.gate_plan.proofs.BristolBitLemmas.{told_size}
use Rattle.gate_plan.proofs.BristolCodeLemmas.{row_start, row_next, row_room}
use Rattle.gate_plan.proofs.expand.push_outputs.Goals as goal

pub push_told-requires : goal.push_told-requires
push_told-requires c =
    let keys = c.args.keys in
    let circuit = c.args.circuit.now in
    let start : ℕ = length c.args.draft.now.gates in
    let from : ℕ = circuit.wires - sum circuit.outputs in
    let f : ℕ → List Gate = λ j. (told keys (start + gates_of_end keys * j) 1 (wire_among c.args.wires.now (from + j)) All).gates in
    let own = told_size keys (length c.loop-place.draft.gates) 1 c.wire_among-x.result All in
    let outputs = c.output_wires-place-end.ensures in
    let test = c.loop-place-test.true in
    let room = row_room c.args.draft.now c.loop-place.draft c.loop-place.place (gates_of_end keys) f
    (λ j. told_size keys (start + gates_of_end keys * j) 1 (wire_among c.args.wires.now (from + j)) All) c.loop-place.invariant
    (sum circuit.outputs) (omega (arith, outputs, test)) c.requires.room in
    record { room = omega (arith, own, room) }

pub loop-place-preserved : goal.loop-place-preserved
loop-place-preserved c =
    let keys = c.args.keys in
    let circuit = c.args.circuit.now in
    let start : ℕ = length c.args.draft.now.gates in
    let from : ℕ = circuit.wires - sum circuit.outputs in
    let f : ℕ → List Gate = λ j. (told keys (start + gates_of_end keys * j) 1 (wire_among c.args.wires.now (from + j)) All).gates in
    let sizes = λ (j : ℕ). told_size keys (start + gates_of_end keys * j) 1 (wire_among c.args.wires.now (from + j)) All in
    let wires = c.wires.ensures.value in
    let outputs = c.output_wires.ensures in
    let place : c.wires.result - c.output_wires.result ≡ from = omega (arith, wires, outputs) in
    row_next c.args.draft.now c.loop-place.draft c.loop-place.place (gates_of_end keys) f sizes c.loop-place.invariant
    c.push_told.new.draft _
    (ap (λ (m : ℕ). (told keys m 1 c.wire_among-x.result All).gates)
    (row_start c.args.draft.now c.loop-place.draft c.loop-place.place (gates_of_end keys) f sizes c.loop-place.invariant)
    ∙ ap (λ (a : Wire). (told keys (start + gates_of_end keys * c.loop-place.place) 1 a All).gates)
    (c.wire_among-x.ensures ∙ ap (λ m. wire_among c.args.wires.now (m + c.loop-place.place)) place))
    c.in_ok-push_told.ensures.next
