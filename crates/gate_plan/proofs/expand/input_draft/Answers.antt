use Rattle.std.proofs.Common.{ℕ, ◌<◌, ◌%◌, length, ap, arith}
use Rattle.gate_plan.proofs.BristolCodeLemmas.{value_room, value_next}
use Rattle.gate_plan.proofs.expand.input_draft.Goals as goal

pub push_value-requires : goal.push_value-requires
push_value-requires c =
    let widths = c.args.circuit.now.inputs in
    let count = c.input_count-k-end.ensures in
    let test = c.loop-k-test.true in
    let h : c.loop-k.k < length widths = omega arith in
    record {
      room = value_room c.args.keys c.args.parties widths c.loop-k.draft c.loop-k.k h c.loop-k.invariant
          c.input_width.result c.requires.few c.input_width.ensures;
    }

pub loop-k-preserved : goal.loop-k-preserved
loop-k-preserved c =
    let widths = c.args.circuit.now.inputs in
    let count = c.input_count-k-end.ensures in
    let test = c.loop-k-test.true in
    let h : c.loop-k.k < length widths = omega arith in
    value_next c.args.keys c.args.parties widths c.loop-k.draft c.loop-k.k h c.loop-k.invariant c.push_value.new.draft _
    c.input_width.result (ap (λ (n : ℕ). c.loop-k.k % n) c.from.ensures) c.input_width.ensures
    c.in_ok-push_value.ensures
