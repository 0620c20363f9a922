use Rattle.std.proofs.Common.{ℕ, ◌+◌, ◌*◌, ◌∙◌, length, ap}
use Rattle.gate_plan.specs.Adder.{pair_at}
use Rattle.gate_plan.specs.Convert.{joiner_of, joint_gates}
use Rattle.gate_plan.proofs.PartsLemmas.{length_joint_row}
use Rattle.gate_plan.proofs.PartsCodeLemmas.{joints_next, wire_next}
use Rattle.gate_plan.proofs.BristolCodeLemmas.{row_room}
use Rattle.gate_plan.proofs.convert.push_joints.Goals as goal

pub push_joint-requires : goal.push_joint-requires
push_joint-requires c =
    let parts = c.args.parts in
    let m : ℕ = length c.args.draft.now.gates in
    record {
      room = row_room c.args.draft.now c.loop-done.draft c.loop-done.done (joiner_of parts).size
          (joint_gates (joiner_of parts) c.args.first m) (length_joint_row parts c.args.first m)
          c.loop-done.invariant.0 c.args.joints c.loop-done-test.true c.requires.room;
    }

pub loop-done-preserved : goal.loop-done-preserved
loop-done-preserved c =
    let next = c.entry_at-next.ensures ∙ ap (λ k. pair_at (c.args.first + 2 * (k + 1))) c.from.ensures in (
      joints_next c.args.draft.now c.loop-done.draft c.args.parts c.args.first c.loop-done.done c.loop-done.wire
          c.entry_at-next.result c.loop-done.invariant.0 c.loop-done.invariant.1 next c.push_joint.new.draft
          c.in_ok-wire.ensures.next,
      wire_next c.args.draft.now c.loop-done.draft c.args.parts c.args.first c.loop-done.done c.loop-done.wire
          c.entry_at-next.result c.loop-done.invariant.0 c.loop-done.invariant.1 next c.in_ok-wire.wire
          c.in_ok-wire.ensures.given,
    )
