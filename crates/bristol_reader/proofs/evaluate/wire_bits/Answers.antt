use Rattle.std.proofs.Common.{◌≡◌, ℕ, ◌∙◌, length, ap, arith}
use Rattle.std.proofs.lemmas.Bool.{and_parts}
use Rattle.bristol_reader.specs.Line.{is_in_range}
use Rattle.bristol_reader.specs.Stored.{a_gate}
use Rattle.bristol_reader.proofs.EvalLemmas.{evaluated_none, evaluated_all, gate_fits, gate_step, reads_none}
use Rattle.bristol_reader.proofs.evaluate.wire_bits.Goals as goal

pub set_outs-requires-clause-arity : goal.set_outs-requires-clause-arity
set_outs-requires-clause-arity c = (gate_fits c.args.circuit.now c.loop-at.at _ _ _ c.len-at-end.ensures.circuit c.kind.ensures c.ins.ensures c.outs.ensures).arity

pub set_outs-requires-clause-range : goal.set_outs-requires-clause-range
set_outs-requires-clause-range c =
    let fits = gate_fits c.args.circuit.now c.loop-at.at _ _ _ c.len-at-end.ensures.circuit c.kind.ensures c.ins.ensures c.outs.ensures in
    let count : length c.deref_mut.result.now ≡ c.args.circuit.now.wires = ap length c.deref_mut.ensures.value ∙ c.loop-at.invariant.count in
    ap (λ (n : ℕ). is_in_range n (a_gate c.kind.result c.ins.result.now c.outs.result.now)) count ∙ fits.range

pub set_outs-requires-clause-apart : goal.set_outs-requires-clause-apart
set_outs-requires-clause-apart c =
    let fits = gate_fits c.args.circuit.now c.loop-at.at _ _ _ c.len-at-end.ensures.circuit c.kind.ensures c.ins.ensures c.outs.ensures in
    (and_parts _ _ fits.once).1

pub set_outs-requires-clause-others : goal.set_outs-requires-clause-others
set_outs-requires-clause-others c = reads_none _ _ (gate_fits c.args.circuit.now c.loop-at.at _ _ _ c.len-at-end.ensures.circuit c.kind.ensures c.ins.ensures c.outs.ensures)

pub loop-at-init : goal.loop-at-init
loop-at-init c = evaluated_none c.args.circuit.now c.args.values.now c.in_ok-bits.bits.items c.in_ok-bits.ensures.count c.in_ok-bits.ensures.given

pub loop-at-preserved : goal.loop-at-preserved
loop-at-preserved c =
    let len = c.loop-at.bits.ok.0 in
    gate_step c.args.circuit.now c.args.values.now c.loop-at.bits.items c.deref_mut.result.now c.set_outs.new.bits c.loop-at.at c.loop-at.bits.len c.kind.result c.ins.result.now c.outs.result.now c.len-at-end.ensures.circuit c.kind.ensures c.ins.ensures c.outs.ensures c.loop-at.invariant c.deref_mut.ensures.value c.set_outs.auto.bits c.set_outs.ensures.met c.set_outs.ensures.kept (omega arith)

pub returns : goal.returns
returns c =
    let past = c.loop-at-test.false in
    let count = c.len-at-end.ensures.value in
    evaluated_all c.args.circuit.now c.args.values.now c.loop-at.bits.items c.loop-at.at (omega arith) c.loop-at.invariant
