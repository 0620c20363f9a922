use Rattle.std.proofs.Common.{◌≡◌}
use Rattle.gate_plan.specs.Bristol.{wired_before, wired_draft}
use Rattle.gate_plan.proofs.expand.lower_wires.Given as goal

abbrev pub invariant-loop-at : goal.invariant-loop-at
invariant-loop-at l =
    (l.draft ≡ wired_draft l.keys l.parties l.circuit l.at) ×
    (l.wires.items ≡ (wired_before l.keys l.parties l.circuit l.at).wires)
