use Rattle.std.proofs.Common.{sym, ◌∙◌, ap}
use Rattle.plan_gates.specs.Gate.{Gate, is_of_keys}
use Rattle.plan_gates.proofs.MessageLemmas.{gate_there}
use Rattle.plan_gates.proofs.KeyLemmas.{none_next, some_there}
use Rattle.plan_gates.proofs.plan.Plan.has_keys.Goals as goal

pub returns-then-is_of_keys : goal.returns-then-is_of_keys
returns-then-is_of_keys c =
    let gates = c.args.self.now.gates in
    let (gate, there, kind) = gate_there gates c.loop-gate.gate _ c.gate.ensures.kind in
    sym (some_there (λ (gate : Gate). is_of_keys gate.kind) gates c.loop-gate.gate gate there
    (ap is_of_keys kind ∙ (sym c.is_of_keys.ensures ∙ c.if-is_of_keys.true)))

pub loop-gate-preserved : goal.loop-gate-preserved
loop-gate-preserved c =
    let gates = c.args.self.now.gates in
    let (gate, there, kind) = gate_there gates c.loop-gate.gate _ c.gate.ensures.kind in
    none_next (λ (gate : Gate). is_of_keys gate.kind) gates c.loop-gate.gate gate there c.loop-gate.invariant
    (ap is_of_keys kind ∙ (sym c.is_of_keys.ensures ∙ c.if-is_of_keys.false))
