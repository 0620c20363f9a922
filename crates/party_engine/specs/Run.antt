-- One party's run: what it is asked on, and what its end tells.
use Rattle.std.specs.Prelude.{ℕ, ◌≡◌, ◌<◌, ◌⊎◌, ◌++◌, false, ◌&&◌, ◌==◌, Bool, List, filter, slice_get, Option, Some, None, option_map}
use Rattle.std.specs.FinMap as map
use Rattle.mot_base.specs.Limits.{session_count}
use Rattle.mot_base.specs.Links.{ByParty, IsPeer}
use Rattle.mot_base.specs.declared.links.Place.{Place}
use Rattle.share_types.specs.declared.needs.TooFew.{TooFew}
use Rattle.share_types.specs.Needs.{count_of, sum_of_needs, IsFirstShort}
use Rattle.dealer_files.specs.Part.{counts_of}
use Rattle.message_demux.specs.declared.slots.Slot.{Slot}
use Rattle.message_demux.specs.declared.slots.SlotSpec.{SlotSpec}
use Rattle.message_demux.specs.Kept.{InboxContents}
use Rattle.plan_gates.specs.Gate.{Gate}
use Rattle.plan_gates.specs.Plan.{Gates, IsPlan, has_keys}
use Rattle.plan_gates.specs.Needs.{all_needs}
use Rattle.plan_gates.specs.Messages.{message, AreSlotsTo}
use Rattle.joint_run.specs.Party.{Inbox, party_value, party_sends}
use Rattle.joint_run.specs.Joint.{Payloads}
use Rattle.gate_tasks.specs.declared.outgoing.Out.{Out}
use Rattle.gate_tasks.specs.declared.report.PartyReport.{PartyReport}
use Rattle.gate_tasks.specs.Report.{IsReportOf}
use Rattle.gate_tasks.specs.Stage.{HasInput, outs_in}
use Rattle.peer_streams.specs.declared.error.PartyError.{PartyError}
use Rattle.peer_streams.specs.declared.error.PartyError.TheVariants as cause
use Rattle.peer_streams.specs.declared.run.Run.{Run}
use Rattle.peer_streams.specs.Runs.{hello_of, hellos_to, party, place_in, HasHeard}
use Rattle.peer_streams.specs.Sending.{AreSent}
use Rattle.peer_streams.specs.Streams.{ToSend, IsHonestStream}
use Rattle.peer_streams.specs.Taking.{IsAnswer}
use Rattle.party_stages.specs.Following.{Side, me_of, own_of, hand_of, heard_of}
use Rattle.party_engine.specs.Saying.{talk_of}

-- ---- what is asked

-- what a party brings is its own, for the parties of a plan without gates of keys, and has the inputs that the plan takes
-- from it
pub record IsAsked (b : Side) : Type 0 where
  pub plan : IsPlan b.plan
  pub unkeyed : has_keys b.plan ≡ false
  pub inside : me_of b < b.plan.parties
  pub party : b.part.party ≡ me_of b
  pub parties : b.part.parties ≡ b.plan.parties
  pub session : b.own.session < session_count
  pub inputs : (g : ℕ) (gate : Gate) → slice_get b.plan.gates g ≡ Some gate → HasInput gate (me_of b) b.own.inputs

-- of a kind the base and the needs together are above what the part has: of this kind, and of no earlier one
pub record IsShort (b : Side) (few : TooFew) : Type 0 where
  pub first : IsFirstShort (sum_of_needs b.own.bases (all_needs b.plan)) (counts_of b.part) few.kind
  pub before : few.before ≡ count_of b.own.bases few.kind
  pub asked : few.asked ≡ count_of (all_needs b.plan) few.kind
  pub stock : few.stock ≡ count_of (counts_of b.part) few.kind

-- the run, as the parties tell it to each other in their Hellos
abbrev pub run_of : Side → List ℕ → Run
run_of b circuit = record { parties = b.plan.parties; id = b.part.id; circuit = circuit }

-- ---- what it has sent

-- those of some messages that are of a round of a gate
abbrev pub at_round : ℕ → ℕ → List Out → List Out
at_round g round outs = filter (λ out. out.gate == g && out.round == round) outs

-- messages that are those of the equations, each once
abbrev pub AreAllSaid : Side → Inbox → List Out → Type 0
AreAllSaid b got log = (g round : ℕ) → at_round g round log ≡ outs_in (hand_of b got g) (got g) round

-- ---- Ok

-- an inbox keeps nothing of those that are no peers
abbrev pub KeepsNone : Place → InboxContents → Type 0
KeepsNone place inbox = (slot : Slot) → (IsPeer (Some place) slot.from.0 → ⊥) → map.get inbox.kept slot ≡ None

-- What was taken of each peer holds its Hello, the messages that the plan has from it, and its End, and nothing against
-- that. The report is that of the equations for these messages, and the party has sent Hello, each of its own messages
-- once, and End to each other one.
pub record IsRunOver (b : Side) (run : Run) (before : ByParty) (left : Option ByParty) (sent now : Option ByParty) (report : PartyReport) : Type 0 where
  pub inbox : InboxContents
  pub slots : AreSlotsTo b.plan (me_of b) inbox.slots
  pub heard : HasHeard before left (place_in run b.own.me) run inbox
  pub others : KeepsNone (place_in run b.own.me) inbox
  pub report_is : IsReportOf b.plan (me_of b) (party_value b.plan (me_of b) (own_of b) (heard_of inbox))
      (party_sends b.plan (me_of b) (own_of b) (heard_of inbox)) report
  pub log : List Out
  pub said : AreAllSaid b (heard_of inbox) log
  pub all : AreSent sent now (talk_of run b.own.me log)

-- ---- refusals

-- What a refusal tells: that the part has too few records, or nothing where memory ran out, or what was taken of the peers,
-- of which the plan's messages to the party are expected.
abbrev pub IsRefused : Side → Run → ByParty → Option ByParty → (ℕ → Bool) → PartyError → Type 0
IsRefused b run before told closed shown =
    ((few : TooFew) × (shown ≡ cause.TooFew few) × IsShort b few)
    ⊎ ((shown ≡ cause.NoMemory)
    ⊎ ((slots : List SlotSpec) × AreSlotsTo b.plan (me_of b) slots
    × IsAnswer before told closed (place_in run b.own.me) (hellos_to run b.own.me) slots shown))

-- ---- honest peers

-- what a party of a joint run has to send another one
abbrev pub sends_to : Gates → Payloads → ℕ → ℕ → ToSend
sends_to plan table from to g round = option_map (λ m. table g round from to) (message plan from to g round)

-- each peer's bytes are an honest stream of the messages that it has in a joint run
abbrev pub AreHonestPeers : Side → Run → Payloads → ByParty → Type 0
AreHonestPeers b run table before =
    (q : ℕ) → IsPeer (Some (place_in run b.own.me)) q →
    IsHonestStream (hello_of run (party q) b.own.me) (sends_to b.plan table q (me_of b)) (before q)

-- what a party has sent to each other one, behind what was sent before, is an honest stream of what it has to send it in
-- that joint run
abbrev pub HasSentHonestly : Side → Run → Payloads → ByParty → Option ByParty → Type 0
HasSentHonestly b run table sent now =
    (after : ByParty) × (now ≡ Some after)
    × ((q : ℕ) → IsPeer (Some (place_in run b.own.me)) q →
    (stream : List ℕ) × (after q ≡ sent q ++ stream)
    × IsHonestStream (hello_of run b.own.me (party q)) (sends_to b.plan table (me_of b) q) stream)
