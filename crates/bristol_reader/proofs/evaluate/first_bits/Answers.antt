use Rattle.std.proofs.Common.{◌≡◌, ◌∙◌, List, Bool, length, take, ap, arith}
use Rattle.std.specs.Prelude.{sum}
use Rattle.bristol_reader.proofs.InputLemmas.{flat_count, padded_front}
use Rattle.bristol_reader.proofs.evaluate.first_bits.Goals as goal

pub returns-clause-given : goal.returns-clause-given
returns-clause-given c =
    let few = c.wires.ensures.circuit.built.few_inputs in
    let wires = c.wires.ensures.value in
    let count : length c.in_ok-bits.bits.items ≡ sum c.args.circuit.now.inputs = ap length c.in_ok-bits.ensures ∙ flat_count c.args.values.now ∙ ap sum c.requires.widths in
    ap (λ (bits : List Bool). take (sum c.args.circuit.now.inputs) bits) c.in_ok-resize.ensures.items
    ∙ padded_front c.in_ok-bits.bits.items c.wires.result (sum c.args.circuit.now.inputs) _ count (omega arith)
    ∙ c.in_ok-bits.ensures
