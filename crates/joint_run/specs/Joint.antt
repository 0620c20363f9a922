-- All parties together.
use Rattle.std.specs.Prelude.{ℕ, ◌≡◌, List, [], slice_get, Option, Some, None}
use Rattle.plan_gates.specs.Plan.{Gates}
use Rattle.joint_run.specs.Party.{Own, Payload, Inbox, party_sends}

-- all payloads of a run, by gate, round, sender and receiver
abbrev pub Payloads : Type 0
Payloads = ℕ → ℕ → ℕ → ℕ → Payload

-- the payloads to one party
abbrev pub column : Payloads → ℕ → Inbox
column table to g r sender = table g r sender to

-- nobody sends nothing
abbrev pub sent_by : Gates → ℕ → Option Own → Inbox → ℕ → ℕ → ℕ → Payload
sent_by plan sender None inbox g r to = []
sent_by plan sender (Some own) inbox g r to = party_sends plan sender own inbox g r to

-- a joint run of the parties of a list of own data, in their order: each payload is what its sender makes of the payloads
-- to that sender
abbrev pub IsJoint : Gates → List Own → Payloads → Type 0
IsJoint plan owns table =
    (g r sender to : ℕ) →
    table g r sender to ≡ sent_by plan sender (slice_get owns sender) (column table sender) g r to
