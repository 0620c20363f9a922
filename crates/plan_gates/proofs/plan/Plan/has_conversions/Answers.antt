use Rattle.std.proofs.Common.{sym, ◌∙◌, ap}
use Rattle.plan_gates.specs.Gate.{Gate, is_conversion}
use Rattle.plan_gates.proofs.MessageLemmas.{gate_there}
use Rattle.plan_gates.proofs.KeyLemmas.{none_next, some_there}
use Rattle.plan_gates.proofs.plan.Plan.has_conversions.Goals as goal

pub returns-then-is_conversion : goal.returns-then-is_conversion
returns-then-is_conversion c =
    let gates = c.args.self.now.gates in
    let (gate, there, kind) = gate_there gates c.loop-gate.gate _ c.gate.ensures.kind in
    sym (some_there (λ (gate : Gate). is_conversion gate.kind) gates c.loop-gate.gate gate there
    (ap is_conversion kind ∙ (sym c.is_conversion.ensures ∙ c.if-is_conversion.true)))

pub loop-gate-preserved : goal.loop-gate-preserved
loop-gate-preserved c =
    let gates = c.args.self.now.gates in
    let (gate, there, kind) = gate_there gates c.loop-gate.gate _ c.gate.ensures.kind in
    none_next (λ (gate : Gate). is_conversion gate.kind) gates c.loop-gate.gate gate there c.loop-gate.invariant
    (ap is_conversion kind ∙ (sym c.is_conversion.ensures ∙ c.if-is_conversion.false))
