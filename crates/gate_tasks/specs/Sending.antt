-- What a party has to send in a round, by receiver.
use Rattle.std.specs.List.{flat_map}
use Rattle.std.specs.Prelude.{ℕ, ◌<◌, List, [], ◌∷◌, take, length, map, slice_get, slice_index, Option, Some, None}
use Rattle.share_types.specs.declared.bits.Bits.{Bits}
use Rattle.joint_run.specs.Payload.{word_bytes, vectors_bytes}
use Rattle.joint_run.specs.Party.{Payload}
use Rattle.gate_tasks.specs.Stage.{receivers}
use Rattle.gate_tasks.specs.declared.own.StageEnv.{StageEnv}
use Rattle.gate_tasks.specs.declared.outgoing.Out.{Out}
use Rattle.gate_tasks.specs.declared.sending.ToSend.{ToSend}
use Rattle.gate_tasks.specs.declared.sending.ToSend.TheVariants.{Same, Words, Vectors}

-- there is something for a party
abbrev pub HasFor : ToSend → ℕ → Type 0
HasFor (Same payload) to = Unit {0}
HasFor (Words words) to = to < length words.items
HasFor (Vectors vectors) to = to < length vectors.items

-- the payload of one vector
abbrev pub payload_of : Option Bits → Payload
payload_of None = []
payload_of (Some vector) = vectors_bytes vector.width (vector.word ∷ [])

-- the payload for a party
abbrev pub payload_for : ToSend → ℕ → Payload
payload_for (Same payload) to = payload
payload_for (Words words) to = word_bytes (slice_index words.items to ∷ [])
payload_for (Vectors vectors) to = payload_of (slice_get vectors.items to)

-- the message of a round to a party, and those to all receivers, by what each is sent
abbrev pub out_by : StageEnv → ℕ → (ℕ → Payload) → ℕ → Out
out_by env round payload to = record { to = record { 0 = to }; gate = env.gate; round = round; payload = payload to }

abbrev pub outs_by : StageEnv → ℕ → (ℕ → Payload) → List Out
outs_by env round payload = map (out_by env round payload) (receivers env.plan.now env.own.now.me.0 env.gate round)

-- the payload of the first of some messages, if there is one
abbrev pub first_payload : List Out → List Payload
first_payload outs = map (λ out. out.payload) (take 1 outs)

-- ---- where all receivers of a round are sent the same, by round

abbrev pub round_outs : StageEnv → (ℕ → Payload) → ℕ → List Out
round_outs env formed round = outs_by env round (λ to. formed round)

-- the messages of some rounds, one round after another, and the payload of each round that goes to somebody
abbrev pub outs_for : StageEnv → (ℕ → Payload) → List ℕ → List Out
outs_for env formed rounds = flat_map (round_outs env formed) rounds

abbrev pub kept_for : StageEnv → (ℕ → Payload) → List ℕ → List Payload
kept_for env formed rounds = flat_map (λ round. first_payload (round_outs env formed round)) rounds
