use Rattle.std.proofs.Common.{ℕ, ◌+◌, ◌*◌, List, length, ap, arith}
use Rattle.plan_gates.specs.Gate.{Gate}
use Rattle.gate_plan.specs.Blocks.{entered}
use Rattle.gate_plan.specs.Bristol.{gates_of_end}
use Rattle.gate_plan.proofs.BristolBitLemmas.{entered_size}
use Rattle.gate_plan.proofs.BristolCodeLemmas.{row_start, row_next, row_room}
use Rattle.gate_plan.proofs.expand.push_value.Goals as goal

pub push_entered-requires : goal.push_entered-requires
push_entered-requires c =
    let keys = c.args.keys in
    let first : ℕ = length c.args.draft.now.gates in
    let f : ℕ → List Gate = λ at. (entered keys (first + gates_of_end keys * at) 1 c.args.party.0 c.args.k at).gates in
    let own = entered_size keys (length c.loop-at.draft.gates) 1 c.args.party.0 c.args.k c.loop-at.at in
    let room = row_room c.args.draft.now c.loop-at.draft c.loop-at.at (gates_of_end keys) f
    (λ i. entered_size keys (first + gates_of_end keys * i) 1 c.args.party.0 c.args.k i) c.loop-at.invariant
    c.args.width c.loop-at-test.true c.requires.room in
    record { room = omega (arith, own, room) }

pub loop-at-preserved : goal.loop-at-preserved
loop-at-preserved c =
    let keys = c.args.keys in
    let first : ℕ = length c.args.draft.now.gates in
    let f : ℕ → List Gate = λ at. (entered keys (first + gates_of_end keys * at) 1 c.args.party.0 c.args.k at).gates in
    let sizes = λ (i : ℕ). entered_size keys (first + gates_of_end keys * i) 1 c.args.party.0 c.args.k i in
    row_next c.args.draft.now c.loop-at.draft c.loop-at.at (gates_of_end keys) f sizes c.loop-at.invariant
    c.push_entered.new.draft _
    (ap (λ (m : ℕ). (entered keys m 1 c.args.party.0 c.args.k c.loop-at.at).gates)
    (row_start c.args.draft.now c.loop-at.draft c.loop-at.at (gates_of_end keys) f sizes c.loop-at.invariant))
    c.in_ok-push_entered.ensures.next
