-- From whom and how far the gates of a plan take their inputs.
use Rattle.std.specs.Prelude.{ℕ, ◌≡◌, ◌≤◌, ◌+◌, List, slice_get, Some}
use Rattle.circuit_tables.specs.Table.{Input}
use Rattle.plan_gates.specs.Gate.{Gate}
use Rattle.plan_gates.specs.Plan.{Gates}
use Rattle.joint_run.specs.Honest.{Taken, taken_by}
use Rattle.gate_tasks.specs.Stage.{taken_from}

-- what a gate takes is an input of the table, from the party whose value it is, and no bit beyond its width
pub record TakesFrom (inputs : List Input) (gate : Gate) (t : Taken) : Type 0 where
  pub input : Input
  pub there : slice_get inputs t.k ≡ Some input
  pub party : input.party.0 ≡ t.party
  pub within : taken_from gate.kind + gate.width ≤ input.width

-- the gates of a plan take no inputs but those of a table
abbrev pub TakesInputs : List Input → Gates → Type 0
TakesInputs inputs plan =
    (g : ℕ) (gate : Gate) (t : Taken) → slice_get plan.gates g ≡ Some gate → taken_by gate.kind ≡ Some t →
    TakesFrom inputs gate t
