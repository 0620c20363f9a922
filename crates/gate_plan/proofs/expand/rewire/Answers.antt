use Rattle.std.proofs.Common.{ℕ, List, get_or, set, sym, ◌∙◌, ap, ap₂, arith}
use Rattle.std.proofs.lemmas.List.{length-set}
use Rattle.gate_plan.specs.declared.wire.Wire.{Wire}
use Rattle.gate_plan.specs.Bristol.{output_wire}
use Rattle.gate_plan.proofs.BristolWireLemmas.{rewired_next, rewired_all}
use Rattle.gate_plan.proofs.expand.rewire.Goals as goal

pub output_wire-requires : goal.output_wire-requires
output_wire-requires c =
    let same = c.loop-out.invariant.0 in
    let within = c.loop-out-test.true in
    let few = c.requires.few in
    omega arith

pub loop-out-preserved : goal.loop-out-preserved
loop-out-preserved c =
    let k = c.loop-out.out-index in
    let out = get_or c.args.outs.now k 0 in
    let made : ℕ → Wire = output_wire c.args.keys c.args.kind c.args.x c.args.first in
    let same = c.loop-out.invariant.0 in (
      omega arith,
      length-set c.loop-out.wires out c.output_wire.result ∙ c.loop-out.invariant.1,
      ap₂ (λ (ws : List Wire) (a : Wire). set ws out a) c.loop-out.invariant.2
          (c.output_wire.ensures ∙ ap made same)
          ∙ sym (rewired_next c.args.wires.now c.args.outs.now made k c.loop-out-test.true),
    )

pub returns : goal.returns
returns c =
    c.loop-out.invariant.2
    ∙ rewired_all c.args.wires.now c.args.outs.now
    (output_wire c.args.keys c.args.kind c.args.x c.args.first) c.loop-out.out-index c.loop-out-test.false
