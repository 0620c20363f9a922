use Rattle.std.proofs.Common.{◌≡◌, false, take}
use Rattle.std.specs.List.{list_any}
use Rattle.plan_gates.specs.Gate.{is_conversion}
use Rattle.plan_gates.proofs.plan.Plan.has_conversions.Given as goal

abbrev pub invariant-loop-gate : goal.invariant-loop-gate
invariant-loop-gate l = list_any (λ gate. is_conversion gate.kind) (take l.gate l.self.gates) ≡ false
