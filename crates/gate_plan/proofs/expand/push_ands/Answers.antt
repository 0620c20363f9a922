use Rattle.std.proofs.Common.{ℕ, ◌+◌, ◌*◌, List, length, ◌∙◌, ap, ap₂, arith}
use Rattle.std.specs.Prelude.{slice_index}
use Rattle.plan_gates.specs.Gate.{Gate}
use Rattle.gate_plan.specs.declared.wire.Wire.{Wire}
use Rattle.gate_plan.specs.Blocks.{wire_among, anded}
use Rattle.gate_plan.specs.Bristol.{gates_of_and}
use Rattle.gate_plan.proofs.BristolBitLemmas.{anded_size}
use Rattle.gate_plan.proofs.BristolCodeLemmas.{row_start, row_next, row_room}
use Rattle.gate_plan.proofs.expand.push_ands.Goals as goal

pub push_anded-requires : goal.push_anded-requires
push_anded-requires c =
    let keys = c.args.keys in
    let first : ℕ = length c.args.draft.now.gates in
    let x : ℕ → Wire = λ i. wire_among c.args.wires.now (slice_index c.args.ins.now i) in
    let f : ℕ → List Gate = λ i. (anded keys (first + gates_of_and keys * i) 1 (x i) (x (c.args.count + i))).gates in
    let own = anded_size keys (length c.loop-i.draft.gates) 1 c.input_wire-x.result c.input_wire-y.result in
    let room = row_room c.args.draft.now c.loop-i.draft c.loop-i.i (gates_of_and keys) f
    (λ i. anded_size keys (first + gates_of_and keys * i) 1 (x i) (x (c.args.count + i))) c.loop-i.invariant
    c.args.count c.loop-i-test.true c.requires.room in
    record { room = omega (arith, own, room) }

pub loop-i-preserved : goal.loop-i-preserved
loop-i-preserved c =
    let keys = c.args.keys in
    let first : ℕ = length c.args.draft.now.gates in
    let x : ℕ → Wire = λ i. wire_among c.args.wires.now (slice_index c.args.ins.now i) in
    let f : ℕ → List Gate = λ i. (anded keys (first + gates_of_and keys * i) 1 (x i) (x (c.args.count + i))).gates in
    let sizes = λ (i : ℕ). anded_size keys (first + gates_of_and keys * i) 1 (x i) (x (c.args.count + i)) in
    row_next c.args.draft.now c.loop-i.draft c.loop-i.i (gates_of_and keys) f sizes c.loop-i.invariant
    c.push_anded.new.draft _
    (ap (λ (m : ℕ). (anded keys m 1 c.input_wire-x.result c.input_wire-y.result).gates)
    (row_start c.args.draft.now c.loop-i.draft c.loop-i.i (gates_of_and keys) f sizes c.loop-i.invariant)
    ∙ ap₂ (λ (a b : Wire). (anded keys (first + gates_of_and keys * c.loop-i.i) 1 a b).gates)
    c.input_wire-x.ensures c.input_wire-y.ensures)
    c.in_ok-push_anded.ensures.next
