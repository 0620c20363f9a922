use Rattle.std.proofs.Common.{◌≡◌, ◌<◌, ℕ, Some}
use Rattle.std.specs.Prelude.{slice_get}
use Rattle.plan_gates.specs.Gate.{Gate}
use Rattle.gate_tasks.specs.Stage.{HasInput}
use Rattle.gate_tasks.proofs.deciding.has_inputs.Given as goal

abbrev pub invariant-loop-gate : goal.invariant-loop-gate
invariant-loop-gate l =
    (g : ℕ) (gate : Gate) → g < l.gate → slice_get l.plan.gates g ≡ Some gate → HasInput gate l.party.0 l.own.inputs
