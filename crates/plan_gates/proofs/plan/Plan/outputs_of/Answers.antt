use Rattle.std.proofs.Common.{true, false, sym, ◌∙◌, arith}
use Rattle.std.specs.Prelude.{slice_get}
use Rattle.mot_base.proofs.Lists.{mapped_some}
use Rattle.plan_gates.specs.Messages.{tells}
use Rattle.plan_gates.proofs.MessageLemmas.{count_next}
use Rattle.plan_gates.proofs.plan.Plan.outputs_of.Goals as goal
use Rattle.plan_gates.proofs.plan.Plan.outputs_of.Goals.{then-tells, else-tells}

pub loop-gate-preserved : goal.loop-gate-preserved
loop-gate-preserved c =
    let gates = c.args.self.now.gates in
    let party = c.args.party.0 in
    let (gate, there, told) = mapped_some (tells party) (slice_get gates c.loop-gate.gate) c.tells.result c.tells.ensures in
    let before = c.loop-gate.invariant in
    elim c.if-tells.branch [
      | then-tells w ↦
          (let next = count_next (tells party) gates c.loop-gate.gate c.loop-gate.count gate true there (sym told ∙ w.if-tells.true) before.0 in
          (w.count-is ∙ next, let is = w.count-is in let few = before.1 in omega arith))
      | else-tells w ↦
          (let next = count_next (tells party) gates c.loop-gate.gate c.loop-gate.count gate false there (sym told ∙ w.if-tells.false) before.0 in
          (w.count-is ∙ (omega arith ∙ next), let is = w.count-is in let few = before.1 in omega arith))
    ]
