-- What the last pass stands on.
use Rattle.std.specs.Prelude.{ℕ, ◌≡◌, ◌≢◌, ◌<◌, ◌≤◌, slice_get, Some, None}
use Rattle.std.specs.FinMap as map
use Rattle.message_demux.specs.Kept.{InboxContents}
use Rattle.plan_gates.specs.declared.message.Message.{Message}
use Rattle.plan_gates.specs.Messages.{message}
use Rattle.gate_tasks.specs.Task.{Task, slot_from}
use Rattle.gate_tasks.specs.Wires.{value_held}
use Rattle.party_stages.specs.Following.{Side, me_of, Progress}

-- each message of the plan to a party is kept
abbrev pub HasCome : Side → InboxContents → Type 0
HasCome b inbox =
    (g round from : ℕ) (m : Message) → message b.plan from (me_of b) g round ≡ Some m →
    map.get inbox.kept (slot_from g round from) ≢ None

-- each gate before this one has its value
abbrev pub AreDoneBelow : Progress → ℕ → Type 0
AreDoneBelow p g = (x : ℕ) → x < g → value_held p.wires x ≢ None

-- at least so many stages of a gate were run, unless it has its value
abbrev pub HasRunSo : Progress → ℕ → ℕ → Type 0
HasRunSo p g n = (task : Task) → slice_get p.tasks g ≡ Some task → value_held p.wires g ≡ None → n ≤ task.stage
