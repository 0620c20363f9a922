use Rattle.std.proofs.Common.{ap, length, arith, List, Option, Bool}
use Rattle.circuit_values.specs.declared.cause.ValuesCause.{ValuesCause}
use Rattle.circuit_values.specs.Values.{values}
use Rattle.text_lines.proofs.ReaderLemmas.{one_more}
use Rattle.circuit_values.proofs.read.read_asked.Goals as goal

pub loop-line-preserved : goal.loop-line-preserved
loop-line-preserved c =
    let count = ap length c.in-Some.ensures.next in
    (one_more (List (Option (List Bool))) (List (List Bool)) ValuesCause (values c.args.asked.now.inputs c.args.asked.now.owner) _ _ _ _ _ _ _ c.loop-line.invariant.0 c.in-Some.ensures.next c.in_ok-given-2.ensures.value, omega arith, c.in_ok-given-2.ensures.count)
