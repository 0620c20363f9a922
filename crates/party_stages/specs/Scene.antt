-- A party at work.
use Rattle.std.specs.Prelude.{ℕ, false, ◌≡◌, ◌≢◌, ◌<◌, List, length, slice_get, Option, Some, None, option_map}
use Rattle.std.specs.List.{All}
use Rattle.std.specs.Option.{option_or}
use Rattle.share_types.specs.Sums.{each}
use Rattle.turn_core.specs.Graph.{Graph}
use Rattle.turn_core.specs.declared.edge.TheConstants.{TERMINAL}
use Rattle.message_demux.specs.Kept.{InboxContents}
use Rattle.plan_gates.specs.Plan.{IsPlan, has_keys}
use Rattle.plan_gates.specs.Messages.{awaits, AreSlotsTo}
use Rattle.gate_tasks.specs.Serving.{ServeParty}
use Rattle.gate_tasks.specs.Stage.{operands_at}
use Rattle.gate_tasks.specs.Task.{Task, gate_lacking, slot_lacking}
use Rattle.gate_tasks.specs.Wires.{value_held}
use Rattle.gate_tasks.specs.declared.step.Need.{Need}
use Rattle.gate_tasks.specs.declared.step.Need.TheVariants as need
use Rattle.party_stages.specs.declared.ran.Ran.{Ran}
use Rattle.party_stages.specs.Following.{Side, me_of, Progress, IsProgress, Follows}

-- what a party brings fits the plan, and its inbox expects the plan's messages to it
pub record IsStart (b : Side) (inbox : InboxContents) : Type 0 where
  pub plan : IsPlan b.plan
  pub unkeyed : has_keys b.plan ≡ false
  pub inside : me_of b < b.plan.parties
  pub serves : ServeParty b.plan (me_of b) b.own b.part
  pub slots : AreSlotsTo b.plan (me_of b) inbox.slots

-- what a party brings fits the plan, its inbox expects the plan's messages to it, and it goes by the equations
pub record IsScene (b : Side) (inbox : InboxContents) (p : Progress) : Type 0 where
  pub plan : IsPlan b.plan
  pub unkeyed : has_keys b.plan ≡ false
  pub inside : me_of b < b.plan.parties
  pub serves : ServeParty b.plan (me_of b) b.own b.part
  pub slots : AreSlotsTo b.plan (me_of b) inbox.slots
  pub progress : IsProgress b.plan (me_of b) p
  pub follows : Follows b inbox p

-- the first that a stage of a gate lacks: values of operands in the gate's order, and then messages by sender
abbrev pub need_at : Side → InboxContents → Progress → ℕ → ℕ → Option Need
need_at b inbox p g stage =
    option_or
    (option_map need.Wire (gate_lacking p.wires (operands_at b.plan.gates g)))
    (option_map need.Slot (slot_lacking b.plan (me_of b) inbox g (awaits b.plan (me_of b) g stage)))

-- a gate has no value yet, and its next stage lacks nothing
pub record IsReady (b : Side) (inbox : InboxContents) (p : Progress) (g : ℕ) : Type 0 where
  pub inside : g < length b.plan.gates
  pub unset : value_held p.wires g ≡ None
  pub all : (task : Task) → slice_get p.tasks g ≡ Some task → need_at b inbox p g task.stage ≡ None

-- each gate has its value
abbrev pub AreAllDone : Side → Progress → Type 0
AreAllDone b p = (g : ℕ) → g < length b.plan.gates → value_held p.wires g ≢ None

-- ---- stages side by side

-- so many items, each with one edge, which leads to the end
abbrev pub lone_items : ℕ → Graph
lone_items n = record { items = n; edges = each n (λ k. record { source = k; target = TERMINAL }) }

-- what stages that run side by side see
pub record Wave : Type 0 where
  pub side : Side
  pub inbox : InboxContents
  pub graph : Graph

-- the next stages of some gates, each of which is ready, are the items
pub record IsWave (b : Side) (inbox : InboxContents) (p : Progress) (ready : List ℕ) (graph : Graph) : Type 0 where
  pub scene : IsScene b inbox p
  pub each_ready : All (IsReady b inbox p) ready
  pub graph_is : graph ≡ lone_items (length ready)

-- ---- a stage that was run is the next one

-- a stage that was run is the next one of its gate, which has no value yet
pub record IsNext (p : Progress) (ran : Ran) : Type 0 where
  pub task : Task
  pub there : slice_get p.tasks ran.gate ≡ Some task
  pub stage : ran.stage ≡ task.stage
  pub few : ran.stage < 255
  pub unset : value_held p.wires ran.gate ≡ None
