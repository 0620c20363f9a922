use Rattle.std.proofs.Common.{length, ap, arith}
use Rattle.local_run.proofs.Numbers.{few_items}
use Rattle.local_run.proofs.items.Items.new.Goals as goal

pub overflow_cast-len : goal.overflow_cast-len
overflow_cast-len c =
    let known = c.gates-gate-end.ensures in
    let few = few_items c.args.plan.now c.loop-gate.gate known.plan (omega (arith, c.loop-gate-test.true, known.value)) in
    let long = ap length c.loop-gate.invariant.0 in
    omega (arith, few, long, c.len.ensures, c.loop-gate.list.ok.0)
