use Rattle.std.proofs.Common.{List, ℕ, ◌-◌, length, ap, arith}
use Rattle.std.specs.Prelude.{sum}
use Rattle.bristol_reader.proofs.TableLemmas.{told_all}
use Rattle.bristol_reader.proofs.telling.told.Goals as goal

pub returns : goal.returns
returns c =
    let outputs = c.args.circuit.now.outputs in
    let all = ap (λ (ws : List ℕ). length ws) c.output_widths-widths.ensures.value in
    let value = c.len-at-end.ensures.value in
    let past = c.loop-at-test.false in
    let few = c.wires.ensures.circuit.built.few_outputs in
    let count = c.requires in
    told_all outputs c.args.bits.now (c.args.circuit.now.wires - sum outputs) c.loop-at.outputs c.loop-at.at-counter c.loop-at.from (omega arith) (omega arith) c.loop-at.invariant
