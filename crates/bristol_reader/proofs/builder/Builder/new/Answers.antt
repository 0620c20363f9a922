use Rattle.std.proofs.Common.{ap, arith}
use Rattle.bristol_reader.specs.Circuit.{Heading, Sizes}
use Rattle.bristol_reader.proofs.BuiltLemmas.{kept_none}
use Rattle.bristol_reader.proofs.builder.Builder.new.Goals as goal

pub invariant_of-result : goal.invariant_of-result
invariant_of-result c =
    let wires = ap (λ (s : Sizes). s.wires) c.sizes.view_is in
    let all = ap (λ (h : Heading). h.sizes.wires) c.heading.view_is in
    let ins = c.heading.invariant in
    let outs = c.requires in
    let most = c.sizes.invariant in
    kept_none c.sizes.inside.gates c.sizes.inside.wires c.total.result c.heading.inside.inputs c.args.outputs c.new.result c.in_ok-set.set.items c.new.ensures most.0 most.1 c.total.ensures.positive c.total-total.ensures.positive (omega arith) (omega arith) c.in_ok-set.ensures.count c.total.ensures.total c.in_ok-set.ensures.marked
