-- The messages of a plan: who sends what to whom at which gate, in which round.
use Rattle.std.specs.Prelude.{ℕ, zero, suc, ◌≡◌, ◌+◌, ◌*◌, Bool, false, ◌&&◌, not, ◌==◌, nat_lt, List, [], ◌∷◌, ◌++◌, length, filter, slice_get, Option, Some, None, option_map, is_some, if◌then◌else◌}
use Rattle.std.specs.List.{list_any}
use Rattle.std.specs.Option.{unwrap_or}
use Rattle.share_types.specs.Sums.{each}
use Rattle.share_types.specs.declared.receiver.Receiver.{Receiver}
use Rattle.share_types.specs.Wires.{includes}
use Rattle.message_demux.specs.declared.slots.SlotSpec.{SlotSpec}
use Rattle.message_demux.specs.declared.slots.Shape.TheVariants.{Words, Vectors}
use Rattle.message_demux.specs.Slots.{listed, slot_at, vector_bytes, IsSlotList}
use Rattle.plan_gates.specs.declared.message.Message.{Message}
use Rattle.plan_gates.specs.Gate.{Kind, Gate, InA, MulA, OutA, InB, AndB, OutB, InOnline, ShareAOnline, ShareBOnline, Garble, BToA, receiver_of}
use Rattle.plan_gates.specs.declared.draft.Sizes.{Sizes}
use Rattle.plan_gates.specs.Plan.{Gates, sizes_of}

-- so many words of 8 bytes, and so many vectors of a width
abbrev pub words : ℕ → Message
words count = record { len = 8 * count; shape = Words }

abbrev pub vectors : ℕ → ℕ → Message
vectors count width = record { len = count * vector_bytes width; shape = Vectors count width }

-- an entry of a width: each other party tells the owner its share of the mask, the owner tells the masked bits, and each
-- party its active keys, of 16 bytes for each bit
abbrev pub entry_messages : ℕ → ℕ → ℕ → ℕ → List (Option Message)
entry_messages party width from to =
    (if to == party then Some (vectors 1 width) else None)
    ∷ (if from == party then Some (vectors 1 width) else None)
    ∷ Some (words (2 * width)) ∷ []

-- a garbled table among so many parties: the opened bits of a product, the product's, and the share of the table, which
-- has 16 bytes for each bit, row and owner
abbrev pub table_messages : ℕ → ℕ → List (Option Message)
table_messages parties width =
    Some (vectors 2 width) ∷ Some (vectors 1 width) ∷ Some (words (8 * parties * width)) ∷ []

-- what one party sends another at a gate, in each round in order, of which there are at most three; in a round without a
-- message, none
abbrev pub messages_of : Kind → Sizes → ℕ → ℕ → List (Option Message)
messages_of (InA party k) sizes from to = (if from == party then Some (words 1) else None) ∷ []
messages_of (MulA x y) sizes from to = Some (words 2) ∷ []
messages_of (OutA x receiver) sizes from to = (if includes receiver to then Some (words 1) else None) ∷ []
messages_of (InB party k at) sizes from to = (if from == party then Some (vectors 1 sizes.width) else None) ∷ []
messages_of (AndB x y) sizes from to = Some (vectors 2 sizes.width) ∷ []
messages_of (OutB x receiver) sizes from to =
    (if includes receiver to then Some (vectors 1 sizes.width) else None) ∷ []
messages_of (InOnline party k at m) sizes from to = entry_messages party sizes.width from to
messages_of (ShareAOnline party x m) sizes from to = entry_messages party sizes.width from to
messages_of (ShareBOnline party x m) sizes from to = entry_messages party sizes.width from to
messages_of (Garble u v m) sizes from to = table_messages sizes.parties sizes.width
messages_of (BToA x) sizes from to = Some (vectors 1 sizes.low) ∷ []
messages_of _ sizes from to = []

abbrev pub messages_at : Gates → Option Gate → ℕ → ℕ → List (Option Message)
messages_at plan None from to = []
messages_at plan (Some gate) from to = messages_of gate.kind (sizes_of plan gate) from to

-- two different parties of so many
abbrev pub are_two : ℕ → ℕ → ℕ → Bool
are_two parties from to = (nat_lt from parties && nat_lt to parties) && not (from == to)

-- the message of a slot, if there is one: parties send to the other parties alone
abbrev pub message : Gates → ℕ → ℕ → ℕ → ℕ → Option Message
message plan from to g round =
    if are_two plan.parties from to
    then unwrap_or (slice_get (messages_at plan (slice_get plan.gates g) from to) round) None
    else None

-- ---- stages

-- whether some party sends this one a message in a round of a gate
abbrev pub hears : Gates → ℕ → ℕ → ℕ → Bool
hears plan to g round = list_any (λ from. is_some (message plan from to g round)) (each plan.parties (λ p. p))

-- how many rounds a gate has
abbrev pub rounds : Gates → ℕ → ℕ
rounds plan g = length (messages_at plan (slice_get plan.gates g) 0 0)

-- the rounds of a gate in which a party receives, in order
abbrev pub heard_rounds : Gates → ℕ → ℕ → List ℕ
heard_rounds plan to g = filter (hears plan to g) (each (rounds plan g) (λ round. round))

-- a party's stages of a gate: one that waits for no message, and one for each round in which it receives
abbrev pub stages : Gates → ℕ → ℕ → ℕ
stages plan to g = 1 + length (heard_rounds plan to g)

-- the round whose messages a stage waits for, if it waits for one
abbrev pub awaits : Gates → ℕ → ℕ → ℕ → Option ℕ
awaits plan to g zero = None
awaits plan to g (suc stage) = slice_get (heard_rounds plan to g) stage

-- the stage in which a party sends a round: it has received in as many of the rounds before
abbrev pub sent_in : Gates → ℕ → ℕ → ℕ → ℕ
sent_in plan from g round = length (filter (hears plan from g) (each round (λ r. r)))

-- ---- all messages to a party

-- the message of a slot as one that is expected
abbrev pub spec_of : ℕ → ℕ → ℕ → Message → SlotSpec
spec_of from g round m = record { from = record { 0 = from }; gate = g; round = round; len = m.len; shape = m.shape }

-- the messages of one party to another in the rounds of a gate before one, and at the gates before a place, in order
abbrev pub slot_list : ℕ → ℕ → ℕ → Option Message → List SlotSpec
slot_list from g round None = []
slot_list from g round (Some m) = spec_of from g round m ∷ []

abbrev pub slots_in : Gates → ℕ → ℕ → ℕ → ℕ → List SlotSpec
slots_in plan from to g zero = []
slots_in plan from to g (suc round) =
    slots_in plan from to g round ++ slot_list from g round (message plan from to g round)

abbrev pub slots_from : Gates → ℕ → ℕ → ℕ → List SlotSpec
slots_from plan from to zero = []
slots_from plan from to (suc g) = slots_from plan from to g ++ slots_in plan from to g (rounds plan g)

-- the messages to a party, each in its slot, and no other
pub record AreSlotsTo (plan : Gates) (to : ℕ) (specs : List SlotSpec) : Type 0 where
  pub sorted : IsSlotList specs
  pub each : (from g round : ℕ) →
      listed specs (slot_at (record { 0 = from }) g round) ≡ option_map (spec_of from g round) (message plan from to g round)

-- ---- outputs

-- whether a gate tells its value to a party
abbrev pub tells_by : ℕ → Option Receiver → Bool
tells_by party None = false
tells_by party (Some receiver) = includes receiver party

abbrev pub tells : ℕ → Gate → Bool
tells party gate = tells_by party (receiver_of gate.kind)

-- how many output gates tell a party
abbrev pub outputs_of : Gates → ℕ → ℕ
outputs_of plan party = length (filter (tells party) plan.gates)
