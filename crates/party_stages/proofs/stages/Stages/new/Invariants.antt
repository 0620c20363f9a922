use Rattle.std.proofs.Common.{◌≡◌, []}
use Rattle.share_types.specs.Sums.{each}
use Rattle.gate_tasks.specs.Task.{new_task}
use Rattle.party_stages.proofs.stages.Stages.new.Given as goal

abbrev pub invariant-loop-gate : goal.invariant-loop-gate
invariant-loop-gate l = (l.tasks.items ≡ each l.gate new_task) × (l.said.items ≡ each l.gate (λ g. []))
