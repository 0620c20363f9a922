-- The laws of a run.
use Rattle.std.specs.Prelude.{ℕ, ◌≡◌, false, [], ◌<◌, ◌%◌, ◌^◌, List, Option, Some, None, slice_get, slice_index, length, bit_xor}
use Rattle.share_types.specs.declared.needs.Needs.{Needs}
use Rattle.message_demux.specs.Slots.{has_high_bits}
use Rattle.plan_gates.specs.Gate.{Gate}
use Rattle.plan_gates.specs.Plan.{Gates, IsPlan, IsWire as AreOneWire}
use Rattle.plan_gates.specs.Plain.{Outside, AreLawful, plain_before, plain_numbers}
use Rattle.bmr_eval.specs.Laws.{IsWire}
use Rattle.plan_gates.specs.declared.message.Message.{Message}
use Rattle.plan_gates.specs.Messages.{message}
use Rattle.joint_run.specs.Payload.{word_bytes, word_in, vectors_bytes, vector_in}
use Rattle.joint_run.specs.Party.{Own, Inbox, mask_part, active_part, party_value, party_sends}
use Rattle.joint_run.specs.Honest.{own_at, offset_of, AreHonest, AreInputs, Recombine}
use Rattle.joint_run.specs.Joint.{Payloads, column, IsJoint}
use Rattle.joint_run.specs.Parts.{AreShares, with_shares}

-- what is read at each place of a payload is what was written there
abbrev pub PayloadsReadBack : Type 0
PayloadsReadBack =
    ((words : List ℕ) (i word : ℕ) → slice_get words i ≡ Some word → word_in (word_bytes words) i ≡ word % 2 ^ 64)
    × ((width : ℕ) (vectors : List ℕ) (i vector : ℕ) → slice_get vectors i ≡ Some vector → vector < 2 ^ width →
    vector_in width (vectors_bytes width vectors) i ≡ vector)

-- there is one joint run of a plan and a list of own data, and no other
abbrev pub OneJointRun : Type 0
OneJointRun =
    (plan : Gates) (owns : List Own) →
    (table : Payloads) × IsJoint plan owns table × ((other : Payloads) → IsJoint plan owns other → other ≡ table)

-- in a joint run with honest dealer's parts, the parties' values of each gate recombine to the number that the plan
-- computes there in plain, where each enters its own shares
abbrev pub EveryGateRecombines : Type 0
EveryGateRecombines =
    (plan : Gates) (owns : List Own) (bases : Needs) (session : ℕ) (outside : Outside) (table : Payloads) →
    IsPlan plan → AreHonest plan owns bases session → AreInputs plan owns outside.inputs → AreShares plan owns table outside → IsJoint plan owns table →
    (g : ℕ) (gate : Gate) (x : ℕ) → slice_get plan.gates g ≡ Some gate →
    slice_get (plain_before plan.gates outside (length plan.gates)) g ≡ Some x →
    Recombine gate plan.parties (λ p. party_value plan p (own_at owns p) (column table p) g) x

-- and each wire that is shared as keys recombines, at each party, to the XOR of the numbers of its mask and of its masked
-- bits
abbrev pub EveryWireRecombines : Type 0
EveryWireRecombines =
    (plan : Gates) (owns : List Own) (bases : Needs) (session : ℕ) (outside : Outside) (table : Payloads) →
    IsPlan plan → AreHonest plan owns bases session → AreInputs plan owns outside.inputs → AreShares plan owns table outside → IsJoint plan owns table →
    (m o : ℕ) → AreOneWire plan.gates m o → (p : ℕ) → p < plan.parties →
    IsWire plan.parties (offset_of owns) (λ q. mask_part plan.parties (party_value plan q (own_at owns q) (column table q) m))
    (bit_xor (slice_index (plain_numbers plan outside) o) (slice_index (plain_numbers plan outside) m))
    (active_part plan.parties (party_value plan p (own_at owns p) (column table p) o))

-- the parties' own shares are lawful parts
abbrev pub SharesAreLawful : Type 0
SharesAreLawful =
    (plan : Gates) (owns : List Own) (bases : Needs) (session : ℕ) (inputs : List ℕ) (table : Payloads) →
    IsPlan plan → AreHonest plan owns bases session → AreInputs plan owns inputs → IsJoint plan owns table →
    AreShares plan owns table (with_shares plan owns table inputs)
    × AreLawful plan (with_shares plan owns table inputs) (plain_numbers plan (with_shares plan owns table inputs))

-- the length of a message, and 0 of none
abbrev pub length_of : Option Message → ℕ
length_of None = 0
length_of (Some m) = m.len

-- in a joint run each payload has the length that the plan states for it, and where the plan states no message there is none
abbrev pub PayloadsHaveTheirLengths : Type 0
PayloadsHaveTheirLengths =
    (plan : Gates) (owns : List Own) (table : Payloads) → length owns ≡ plan.parties →
    IsJoint plan owns table → (g round from to : ℕ) → length (table g round from to) ≡ length_of (message plan from to g round)

-- and where the plan states one, no vector of the payload has a bit at or above its width
abbrev pub PayloadsHaveTheirShapes : Type 0
PayloadsHaveTheirShapes =
    (plan : Gates) (owns : List Own) (table : Payloads) → IsPlan plan → length owns ≡ plan.parties →
    IsJoint plan owns table → (g round from to : ℕ) (m : Message) → message plan from to g round ≡ Some m →
    has_high_bits m.shape (table g round from to) ≡ false

-- a party was sent the payload of a run for each message that the plan states, and else nothing
pub record Hears (plan : Gates) (table : Payloads) (p : ℕ) (inbox : Inbox) : Type 0 where
  pub stated : (g round from : ℕ) (m : Message) → message plan from p g round ≡ Some m →
      inbox g round from ≡ table g round from p
  pub none : (g round from : ℕ) → message plan from p g round ≡ None → inbox g round from ≡ []

-- a party that hears a joint run has the run's values, and sends the run's payloads
abbrev pub APartyFollows : Type 0
APartyFollows =
    (plan : Gates) (owns : List Own) (table : Payloads) → length owns ≡ plan.parties →
    IsJoint plan owns table → (p : ℕ) (own : Own) (inbox : Inbox) → slice_get owns p ≡ Some own → Hears plan table p inbox →
    ((g : ℕ) → party_value plan p own inbox g ≡ party_value plan p own (column table p) g)
    × ((g round to : ℕ) → party_sends plan p own inbox g round to ≡ table g round p to)
