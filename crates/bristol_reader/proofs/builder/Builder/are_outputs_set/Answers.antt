use Rattle.std.proofs.Common.{◌∙◌, ◌≡◌, false, get_or, sym, ap, arith}
use Rattle.std.proofs.lemmas.List.{get_or_read}
use Rattle.bristol_reader.specs.Circuit.{Circuit, Progress, are_outputs_set}
use Rattle.bristol_reader.proofs.OutputLemmas.{outputs_set, output_unset}
use Rattle.bristol_reader.proofs.builder.Builder.are_outputs_set.Goals as goal

pub returns-then-not-index : goal.returns-then-not-index
returns-then-not-index c =
    let circuit : Circuit = record { wires = c.self.inside.wires; inputs = c.self.inside.inputs; outputs = c.self.inside.outputs; gates = c.self.inside.gates } in
    let told = c.self.inside.set.items in
    let w = c.loop-wire.wire in
    let count = c.self.invariant.count in
    let below = c.loop-wire-test.true in
    let total = c.total.ensures.total in
    let low = c.loop-wire.auto.wire in
    let here : get_or told w false ≡ false = sym (get_or_read told w _ (omega arith) c.index.ensures false) ∙ c.if-not-index.true in
    sym (ap (λ (p : Progress). are_outputs_set p.circuit) (sym c.self.view_is) ∙ output_unset c.self.inside.stated circuit told w c.self.invariant (omega arith) below here)

pub returns : goal.returns
returns c =
    let circuit : Circuit = record { wires = c.self.inside.wires; inputs = c.self.inside.inputs; outputs = c.self.inside.outputs; gates = c.self.inside.gates } in
    let total = c.total.ensures.total in
    let past = c.loop-wire-test.false in
    sym (ap (λ (p : Progress). are_outputs_set p.circuit) (sym c.self.view_is) ∙ outputs_set c.self.inside.stated circuit c.self.inside.set.items _ c.self.invariant (omega arith) (λ w low high. c.loop-wire.invariant w low (omega arith)))
