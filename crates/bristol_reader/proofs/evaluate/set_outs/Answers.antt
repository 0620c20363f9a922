use Rattle.std.proofs.Common.{length, arith}
use Rattle.bristol_reader.specs.Stored.{a_gate}
use Rattle.bristol_reader.proofs.EvalLemmas.{out_below, set_more, set_met}
use Rattle.bristol_reader.proofs.evaluate.set_outs.Goals as goal

pub bounds-bits-out : goal.bounds-bits-out
bounds-bits-out c =
    let below = out_below (length c.args.bits.now) (a_gate c.args.kind c.args.ins.now c.args.outs.now) c.loop-i.i c.requires.range c.loop-i-test.true in
    let count = c.loop-i.invariant.count in
    omega arith

pub loop-i-preserved : goal.loop-i-preserved
loop-i-preserved c = set_more c.args.bits.now c.loop-i.bits (a_gate c.args.kind c.args.ins.now c.args.outs.now) c.loop-i.i c.output_bit-bit.result c.requires.arity c.requires.range c.requires.apart c.requires.others c.loop-i-test.true c.loop-i.invariant c.output_bit-bit.ensures

pub returns-clause-met : goal.returns-clause-met
returns-clause-met c = set_met c.args.bits.now c.loop-i.bits (a_gate c.args.kind c.args.ins.now c.args.outs.now) c.loop-i.i c.requires.arity c.requires.others c.loop-i-test.false c.loop-i.invariant
