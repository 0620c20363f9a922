-- How far a party has run the gates of a plan: by the equations, whatever is still to come.
use Rattle.std.specs.Prelude.{ℕ, zero, suc, ◌≡◌, ◌<◌, ◌+◌, slice_set, List, [], ◌++◌, length, get_or, slice_get, Option, Some, None, IfSome}
use Rattle.std.specs.FinMap as map
use Rattle.std.specs.Option.{unwrap_or}
use Rattle.message_demux.specs.Kept.{InboxContents}
use Rattle.dealer_files.specs.Part.{Part}
use Rattle.joint_run.specs.declared.own.Own.{Own as OwnInMemory}
use Rattle.plan_gates.specs.Gate.{Gate}
use Rattle.plan_gates.specs.Plan.{Gates}
use Rattle.plan_gates.specs.Messages.{stages}
use Rattle.joint_run.specs.Party.{Own, Payload, Inbox, Rounds, Hand, hand_at, value_at}
use Rattle.gate_tasks.specs.declared.outgoing.Out.{Out}
use Rattle.share_types.specs.Sums.{each}
use Rattle.gate_tasks.specs.declared.stage.StageOut.{StageOut}
use Rattle.gate_tasks.specs.declared.value.Value.{Value as ValueInMemory}
use Rattle.gate_tasks.specs.Stage.{own_with, value_of, gate_of, outs_of, carried_to, IsOf, Gives}
use Rattle.gate_tasks.specs.Task.{Task, new_task, slot_from}
use Rattle.party_stages.specs.declared.ran.Ran.{Ran}
use Rattle.gate_tasks.specs.Wires.{value_held, no_values, with_value}

-- ---- what a party brings

-- one side of a run: the plan, the party's own data and its part of a deal
pub record Side : Type 0 where
  pub plan : Gates
  pub own : OwnInMemory
  pub part : Part

-- its number, its own data with its part of the deal, and its place at a gate where it was sent this
abbrev pub me_of : Side → ℕ
me_of b = b.own.me.0

abbrev pub own_of : Side → Own
own_of b = own_with b.own b.part

abbrev pub hand_of : Side → Inbox → ℕ → Hand
hand_of b got g = hand_at b.plan (me_of b) (own_of b) got g

-- ---- what it was sent

-- the payloads that an inbox keeps, and no bytes where it keeps none
abbrev pub heard_of : InboxContents → Inbox
heard_of inbox g round from = unwrap_or (map.get inbox.kept (slot_from g round from)) []

-- payloads that have all that an inbox keeps
abbrev pub Extends : InboxContents → Inbox → Type 0
Extends inbox got =
    (g round from : ℕ) (payload : Payload) → map.get inbox.kept (slot_from g round from) ≡ Some payload →
    got g round from ≡ payload

-- ---- how far it is

-- each gate's task, the values so far, and what was sent so far at each gate
pub record Progress : Type 0 where
  pub tasks : List Task
  pub wires : List (Option ValueInMemory)
  pub said : List (List Out)

abbrev pub said_at : List (List Out) → ℕ → List Out
said_at said g = get_or said g []

-- what a party sends in the first n stages of a gate
abbrev pub outs_before : Hand → Rounds → ℕ → List Out
outs_before h got zero = []
outs_before h got (suc n) = outs_before h got n ++ outs_of h got n

-- how many stages of a gate were run, whose value is there or not
abbrev pub stages_run : Hand → Task → Option ValueInMemory → ℕ
stages_run h task None = task.stage
stages_run h task (Some value) = stages h.plan h.me h.gate

-- a gate was run by the equations as far as it was run
pub record HasFollowed (h : Hand) (got : Rounds) (task : Task) (value : Option ValueInMemory) (outs : List Out) : Type 0 where
  pub carried : value ≡ None → task.carried ≡ carried_to h got task.stage
  pub valued : IfSome value (λ v. value_of v ≡ value_at (gate_of h) h got)
  pub said : outs ≡ outs_before h got (stages_run h task value)

-- there is a task, a place for the value and for what was sent for each gate; a value is of its gate's kind and width
pub record IsProgress (plan : Gates) (me : ℕ) (p : Progress) : Type 0 where
  pub tasks : length p.tasks ≡ length plan.gates
  pub wires : length p.wires ≡ length plan.gates
  pub said : length p.said ≡ length plan.gates
  pub gate : (g : ℕ) (task : Task) → slice_get p.tasks g ≡ Some task → task.gate ≡ g
  pub stage : (g : ℕ) (task : Task) → slice_get p.tasks g ≡ Some task → task.stage < stages plan me g
  pub typed : (g : ℕ) (gate : Gate) (value : ValueInMemory) → slice_get plan.gates g ≡ Some gate →
      value_held p.wires g ≡ Some value → IsOf gate value

-- whatever is still to come, each gate was run by the equations as far as it was run
abbrev pub Follows : Side → InboxContents → Progress → Type 0
Follows b inbox p =
    (got : Inbox) → Extends inbox got → (g : ℕ) (task : Task) → slice_get p.tasks g ≡ Some task →
    HasFollowed (hand_of b got g) (got g) task (value_held p.wires g) (said_at p.said g)

-- a stage of a gate that was run gave what the equations say, whatever is still to come, and a value of the gate's kind and width
pub record HasRun (b : Side) (inbox : InboxContents) (g stage : ℕ) (given : StageOut) : Type 0 where
  pub gives : (got : Inbox) → Extends inbox got → Gives (hand_of b got g) (got g) stage given
  pub typed : IfSome given.value (λ value. (gate : Gate) → slice_get b.plan.gates g ≡ Some gate → IsOf gate value)

-- the same of a stage with its gate
pub record IsRan (b : Side) (inbox : InboxContents) (ran : Ran) : Type 0 where
  pub inside : ran.gate < length b.plan.gates
  pub run : HasRun b inbox ran.gate ran.stage ran.given

-- ---- the first state, and the next ones

-- nothing was run of so many gates
abbrev pub no_progress : ℕ → Progress
no_progress gates = record { tasks = each gates new_task; wires = no_values gates; said = each gates (λ g. []) }

-- a task whose stage was run, which is not the last one
abbrev pub next_task : Task → Option (List Payload) → Task
next_task task carried = record task { stage = task.stage + 1; carried = carried }

abbrev pub tasks_after : List Task → ℕ → Option ValueInMemory → Option (List Payload) → List Task
tasks_after tasks g None carried = slice_set tasks g (next_task (get_or tasks g (new_task g)) carried)
tasks_after tasks g (Some value) carried = tasks

abbrev pub wires_after : List (Option ValueInMemory) → ℕ → Option ValueInMemory → List (Option ValueInMemory)
wires_after wires g None = wires
wires_after wires g (Some value) = with_value wires g value

-- a stage of a gate gave this
abbrev pub progress_after : Progress → ℕ → StageOut → Progress
progress_after p g given = record {
  tasks = tasks_after p.tasks g given.value given.carried;
  wires = wires_after p.wires g given.value;
  said = slice_set p.said g (said_at p.said g ++ given.out);
}
