-- A gate of a party as a task: what it lacks, and what it does.
use Rattle.std.specs.Prelude.{ℕ, ◌≡◌, ◌+◌, true, false, List, [], ◌∷◌, slice_get, Option, Some, None, option_map, is_none, is_some, IfSome, ◌<◌}
use Rattle.std.specs.FinMap as map
use Rattle.std.specs.List.{find, flat_map}
use Rattle.std.specs.Option.{option_or}
use Rattle.message_demux.specs.declared.slots.Slot.{Slot}
use Rattle.message_demux.specs.Slots.{slot_at, listed}
use Rattle.message_demux.specs.Fit.{Fits}
use Rattle.message_demux.specs.Kept.{InboxContents}
use Rattle.plan_gates.specs.Gate.{Gate}
use Rattle.plan_gates.specs.Plan.{Gates}
use Rattle.plan_gates.specs.Messages.{message, spec_of, awaits}
use Rattle.joint_run.specs.Party.{Payload, Hand, Rounds, value_at}
use Rattle.gate_tasks.specs.Wires.{value_held}
use Rattle.gate_tasks.specs.Stage.{IsOf, value_of, gate_of, senders, operands_at, outs_of, carried_on, is_last}
use Rattle.gate_tasks.specs.declared.value.Value.{Value as ValueInMemory}
use Rattle.gate_tasks.specs.declared.own.Env.{Env}
use Rattle.gate_tasks.specs.declared.own.StageEnv.{StageEnv}
use Rattle.gate_tasks.specs.declared.step.Need.{Need}
use Rattle.gate_tasks.specs.declared.step.Need.TheVariants as need
use Rattle.gate_tasks.specs.declared.step.Step.{Step}
use Rattle.gate_tasks.specs.declared.step.Step.TheVariants.{NotYet, Sent, Done}

-- a task: its gate, the stage that it runs next, and what it carries to it
pub record Task : Type 0 where
  pub gate : ℕ
  pub stage : ℕ
  pub carried : Option (List Payload)

-- a task that has run no stage
abbrev pub new_task : ℕ → Task
new_task gate = record { gate = gate; stage = 0; carried = None }

-- the place of a party at a gate
abbrev pub place_at : Env → ℕ → StageEnv
place_at env g = record { plan = env.plan; own = env.own; part = env.part; gate = g }

-- ---- what is there

abbrev pub option_list : {X : Type 0} → Option X → List X
option_list None = []
option_list (Some x) = x ∷ []

-- the values that are held of some gates, in order
abbrev pub held_values : List (Option ValueInMemory) → List ℕ → List ValueInMemory
held_values wires gates = flat_map (λ x. option_list (value_held wires x)) gates

-- the slot of a party's message at a gate
abbrev pub slot_from : ℕ → ℕ → ℕ → Slot
slot_from g round from = slot_at (record { 0 = from }) g round

-- the payloads that are kept of some parties' messages in a round, in order
abbrev pub kept_payloads : InboxContents → ℕ → ℕ → List ℕ → List Payload
kept_payloads inbox g round parties = flat_map (λ from. option_list (map.get inbox.kept (slot_from g round from))) parties

-- the payloads that are kept of those for which a stage waits
abbrev pub payloads_at : Gates → ℕ → InboxContents → ℕ → Option ℕ → List Payload
payloads_at plan me inbox g None = []
payloads_at plan me inbox g (Some round) = kept_payloads inbox g round (senders plan me g round)

-- ---- what is lacking

-- the first of some gates that has no value
abbrev pub gate_lacking : List (Option ValueInMemory) → List ℕ → Option ℕ
gate_lacking wires gates = find (λ x. is_none (value_held wires x)) gates

-- the first of some parties whose message did not come
abbrev pub party_lacking : InboxContents → ℕ → ℕ → List ℕ → Option ℕ
party_lacking inbox g round parties = find (λ from. is_none (map.get inbox.kept (slot_from g round from))) parties

abbrev pub slot_lacking : Gates → ℕ → InboxContents → ℕ → Option ℕ → Option Slot
slot_lacking plan me inbox g None = None
slot_lacking plan me inbox g (Some round) =
    option_map (slot_from g round) (party_lacking inbox g round (senders plan me g round))

-- the first that a stage lacks: values of operands in the gate's order, and then messages by sender
abbrev pub lacking : Env → ℕ → ℕ → Option Need
lacking env g stage =
    option_or
    (option_map need.Wire (gate_lacking env.wires.now (operands_at env.plan.now.gates g)))
    (option_map need.Slot
    (slot_lacking env.plan.now env.own.now.me.0 env.inbox.now g (awaits env.plan.now env.own.now.me.0 g stage)))

-- ---- what a task answers

abbrev pub need_of : Step → Option Need
need_of (NotYet need) = Some need
need_of (Sent outs) = None
need_of (Done value outs) = None

abbrev pub value_done : Step → Option ValueInMemory
value_done (NotYet need) = None
value_done (Sent outs) = None
value_done (Done value outs) = Some value

-- a stage that was run gave what the party's equations say: all but the last one moved the task to the next stage
abbrev pub HasRun : Hand → Rounds → Task → Step → Task → Type 0
HasRun h got old (NotYet need) new = Unit {0}
HasRun h got old (Sent outs) new =
    (is_last h.plan h.me h.gate old.stage ≡ false) × (outs ≡ outs_of h got old.stage)
    × (new ≡ record { gate = old.gate; stage = old.stage + 1; carried = carried_on h got old.stage })
HasRun h got old (Done value outs) new =
    (is_last h.plan h.me h.gate old.stage ≡ true) × (outs ≡ outs_of h got old.stage)
    × (value_of value ≡ value_at (gate_of h) h got) × (new ≡ old)

-- ---- its conditions

-- the values that are held of the operands of a gate have the types that their gates give
abbrev pub HoldTypes : Gates → ℕ → List (Option ValueInMemory) → Type 0
HoldTypes plan g wires =
    (i x : ℕ) (gate : Gate) (value : ValueInMemory) → slice_get (operands_at plan.gates g) i ≡ Some x →
    slice_get plan.gates x ≡ Some gate → value_held wires x ≡ Some value → IsOf gate value

-- an inbox expects exactly the messages that the plan has to a party at a gate
abbrev pub ExpectsAll : Gates → ℕ → ℕ → InboxContents → Type 0
ExpectsAll plan me g inbox =
    (from round : ℕ) → listed inbox.slots (slot_from g round from) ≡ option_map (spec_of from g round) (message plan from me g round)

-- the payloads that are kept of what the first parties of so many send a party in a round fit what is expected
abbrev pub KeptFit : Gates → ℕ → InboxContents → ℕ → ℕ → ℕ → Type 0
KeptFit plan me inbox g round n =
    (from : ℕ) → from < n → is_some (message plan from me g round) ≡ true →
    IfSome (map.get inbox.kept (slot_from g round from)) (Fits inbox.slots (slot_from g round from))
