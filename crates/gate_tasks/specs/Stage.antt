-- The stages of a gate at a party: what each is given, and what it gives.
use Rattle.std.specs.Prelude.{ℕ, zero, suc, ◌≡◌, ◌<◌, ◌≤◌, ◌+◌, Bool, false, ◌==◌, List, [], ◌++◌, length, map, take, filter, slice_get, get_or, Option, Some, None, option_map, is_some, IfSome, if◌then◌else◌}
use Rattle.std.specs.List.{flat_map}
use Rattle.mot_base.specs.Limits.{session_count}
use Rattle.share_types.specs.declared.needs.Kind as stock
use Rattle.share_types.specs.Needs.{count_of, sum_of_needs}
use Rattle.share_types.specs.Sums.{each}
use Rattle.message_demux.specs.Slots.{has_high_bits}
use Rattle.dealer_files.specs.Part.{Part, counts_of}
use Rattle.plan_gates.specs.Gate.{Kind, Gate, Word, Vector, InB, InOnline, gives, operands}
use Rattle.plan_gates.specs.Gate as plan
use Rattle.plan_gates.specs.Plan.{Gates, has_keys}
use Rattle.plan_gates.specs.Needs.{offset, needs_at}
use Rattle.plan_gates.specs.declared.message.Message.{Message}
use Rattle.plan_gates.specs.Messages.{message, rounds, stages, awaits, sent_in}
use Rattle.joint_run.specs.Party.{Own, Value, WordShare, VectorShare, Told, Payload, Rounds, Hand, hand, value_at, round_sends}
use Rattle.joint_run.specs.Honest.{Taken, taken_by}
use Rattle.gate_tasks.specs.declared.value.Value.{Value as ValueInMemory}
use Rattle.gate_tasks.specs.declared.value.Value.TheVariants as code
use Rattle.gate_tasks.specs.declared.outgoing.Out.{Out}
use Rattle.joint_run.specs.declared.own.Own.{Own as OwnInMemory}
use Rattle.gate_tasks.specs.declared.own.StageEnv.{StageEnv}
use Rattle.gate_tasks.specs.declared.stage.StageOut.{StageOut}

-- ---- values in memory

-- a value in memory as the equations speak of it
abbrev pub value_of : ValueInMemory → Value
value_of (code.A word) = WordShare word
value_of (code.B vector) = VectorShare vector.word
value_of (code.Told told) = Told (option_map (λ vector. vector.word) told)

-- a value has the kind and the width that a gate gives
abbrev pub IsOf : Gate → ValueInMemory → Type 0
IsOf gate (code.A word) = gives gate.kind ≡ Word
IsOf gate (code.B vector) = (gives gate.kind ≡ Vector) × (vector.width ≡ gate.width)
IsOf gate (code.Told told) = (gives gate.kind ≡ plan.Told) × IfSome told (λ vector. vector.width ≡ gate.width)

-- the own data of a party together with its part of a deal
abbrev pub own_with : OwnInMemory → Part → Own
own_with own part = record {
  seed = own.seed.0;
  inputs = own.inputs;
  session = own.session;
  bases = own.bases;
  part = part;
}

-- a party's place at a gate, with its values of the gates before
abbrev pub hand_in : StageEnv → List Value → Hand
hand_in env before = hand env.plan.now env.own.now.me.0 (own_with env.own.now env.part.now) env.gate before

-- ---- who sends and who receives

-- the parties that send this one something in a round of a gate, and those to whom it sends something, in rising order
abbrev pub senders : Gates → ℕ → ℕ → ℕ → List ℕ
senders plan me g round = filter (λ from. is_some (message plan from me g round)) (each plan.parties (λ p. p))

abbrev pub receivers : Gates → ℕ → ℕ → ℕ → List ℕ
receivers plan me g round = filter (λ to. is_some (message plan me to g round)) (each plan.parties (λ p. p))

-- the rounds that a party sends in a stage, in order
abbrev pub rounds_sent : Gates → ℕ → ℕ → ℕ → List ℕ
rounds_sent plan me g stage =
    filter (λ round. sent_in plan me g round == stage) (each (rounds plan g) (λ r. r))

-- whether a stage is a party's last one at a gate
abbrev pub is_last : Gates → ℕ → ℕ → ℕ → Bool
is_last plan me g stage = stages plan me g == stage + 1

-- ---- what a stage gives

-- the gate at which a party stands
abbrev pub gate_of : Hand → Option Gate
gate_of h = slice_get h.plan.gates h.gate

-- what a party sends in a round
abbrev pub out_to : Hand → Rounds → ℕ → ℕ → Out
out_to h got round to = record {
  to = record { 0 = to };
  gate = h.gate;
  round = round;
  payload = round_sends (gate_of h) h got round to;
}

abbrev pub outs_in : Hand → Rounds → ℕ → List Out
outs_in h got round = map (out_to h got round) (receivers h.plan h.me h.gate round)

-- what a party sends in a stage, by round and then by receiver
abbrev pub outs_of : Hand → Rounds → ℕ → List Out
outs_of h got stage = flat_map (outs_in h got) (rounds_sent h.plan h.me h.gate stage)

-- the payload that a party forms in a round, if it sends something there: what it sends to the first of the receivers
abbrev pub formed_in : Hand → Rounds → ℕ → List Payload
formed_in h got round = map (λ out. out.payload) (take 1 (outs_in h got round))

-- what a stage adds to what is carried: the payloads that the party forms in it, by round
abbrev pub kept_in : Hand → Rounds → ℕ → List Payload
kept_in h got stage = flat_map (formed_in h got) (rounds_sent h.plan h.me h.gate stage)

-- the payloads that a party formed in the stages before one, by round
abbrev pub formed_before : Hand → Rounds → ℕ → List Payload
formed_before h got zero = []
formed_before h got (suc stage) =
    formed_before h got stage ++ kept_in h got stage

-- what is carried to a stage: the payloads formed before, and nothing to the first one
abbrev pub carried_to : Hand → Rounds → ℕ → Option (List Payload)
carried_to h got zero = None
carried_to h got (suc stage) = Some (formed_before h got (suc stage))

-- what a stage carries on: the last one carries nothing
abbrev pub carried_on : Hand → Rounds → ℕ → Option (List Payload)
carried_on h got stage = if is_last h.plan h.me h.gate stage then None else Some (formed_before h got (suc stage))

-- the value that a stage gives: the last one gives that of the gate
abbrev pub value_on : Hand → Rounds → ℕ → Option Value
value_on h got stage = if is_last h.plan h.me h.gate stage then Some (value_at (gate_of h) h got) else None

-- a stage gives what the party's equations say
pub record Gives (h : Hand) (got : Rounds) (stage : ℕ) (given : StageOut) : Type 0 where
  pub sends : given.out ≡ outs_of h got stage
  pub carries : given.carried ≡ carried_on h got stage
  pub values : option_map value_of given.value ≡ value_on h got stage

-- ---- what a stage is given

-- what the gate at a place does, and its operands, in order
abbrev pub kind_at : List Gate → ℕ → Option Kind
kind_at gates g = option_map (λ gate. gate.kind) (slice_get gates g)

abbrev pub operands_of : Option Kind → List ℕ
operands_of None = []
operands_of (Some kind) = operands kind

abbrev pub operands_at : List Gate → ℕ → List ℕ
operands_at gates g = operands_of (kind_at gates g)

-- what a party hears in the round that a stage waits for, by sender
abbrev pub heard_in : Hand → Rounds → Option ℕ → List Payload
heard_in h got None = []
heard_in h got (Some round) = map (got round) (senders h.plan h.me h.gate round)

-- the inputs of a stage by value: the values of the operands, what is carried from the stages before, and the payloads
-- for which it waits
pub record IsStage (h : Hand) (got : Rounds) (stage : ℕ) (wires : List ValueInMemory) (carried : Option (List Payload)) (heard : List Payload) : Type 0 where
  pub wires_are : map value_of wires ≡ map (λ x. get_or h.wires x (Told None)) (operands_at h.plan.gates h.gate)
  pub carried_is : carried ≡ carried_to h got stage
  pub heard_is : heard ≡ heard_in h got (awaits h.plan h.me h.gate stage)

-- ---- the conditions of a stage

-- the bit from which on a gate takes its input
abbrev pub taken_from : Kind → ℕ
taken_from (InB party k at) = at
taken_from (InOnline party k at m) = at
taken_from _ = 0

-- the own input that a gate takes has the gate's bits
abbrev pub HasInput : Gate → ℕ → List (List Bool) → Type 0
HasInput gate me inputs =
    (t : Taken) → taken_by gate.kind ≡ Some t → t.party ≡ me →
    taken_from gate.kind + gate.width ≤ length (get_or inputs t.k [])

-- own data and a part of a deal that serve a gate: the part is the party's, for the parties of the plan, the session has
-- share words, the input is there that the gate takes, and there are records of each kind that the gate needs. No stage runs
-- gates of keys yet, so that the plan has none
pub record Serves (plan : Gates) (own : OwnInMemory) (part : Part) (g : ℕ) : Type 0 where
  pub there : g < length plan.gates
  pub unkeyed : has_keys plan ≡ false
  pub party : part.party ≡ own.me.0
  pub parties : part.parties ≡ plan.parties
  pub session : own.session < session_count
  pub input : (gate : Gate) → slice_get plan.gates g ≡ Some gate → HasInput gate own.me.0 own.inputs
  pub records : (kind : stock.Kind) → 0 < count_of (needs_at plan g) kind →
      count_of (sum_of_needs (sum_of_needs own.bases (offset plan g)) (needs_at plan g)) kind
      ≤ count_of (counts_of part) kind

-- the values of the operands, in order, each of the kind and width that its gate gives
pub record AreOperands (plan : Gates) (g : ℕ) (wires : List ValueInMemory) : Type 0 where
  pub count : length wires ≡ length (operands_at plan.gates g)
  pub types : (i x : ℕ) (gate : Gate) (value : ValueInMemory) →
      slice_get (operands_at plan.gates g) i ≡ Some x → slice_get plan.gates x ≡ Some gate →
      slice_get wires i ≡ Some value → IsOf gate value

-- a payload has the length of a message, and no vector of it has a bit at or above its width
abbrev pub HasShape : Message → Payload → Type 0
HasShape m payload = (length payload ≡ m.len) × (has_high_bits m.shape payload ≡ false)

-- the parties whose payloads a stage waits for
abbrev pub awaited : Gates → ℕ → ℕ → Option ℕ → List ℕ
awaited plan me g None = []
awaited plan me g (Some round) = senders plan me g round

-- the payloads for which a stage waits, by sender, each of its slot's length and shape
pub record AreAwaited (plan : Gates) (me g : ℕ) (round : Option ℕ) (payloads : List Payload) : Type 0 where
  pub count : length payloads ≡ length (awaited plan me g round)
  pub shapes : (r i from : ℕ) (m : Message) (payload : Payload) → round ≡ Some r →
      slice_get (senders plan me g r) i ≡ Some from → message plan from me g r ≡ Some m →
      slice_get payloads i ≡ Some payload → HasShape m payload
