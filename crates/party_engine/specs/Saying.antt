-- What a party has sent.
use Rattle.std.specs.Prelude.{ℕ, ◌≡◌, ◌≤◌, ◌==◌, List, [], ◌++◌, filter, Option, Some, if◌then◌else◌}
use Rattle.std.specs.List.{flat_map}
use Rattle.mot_base.specs.Links.{ByParty, IsPeer}
use Rattle.mot_base.specs.declared.Party.{Party}
use Rattle.mot_base.specs.declared.links.Place.{Place}
use Rattle.frames.specs.Bytes.{canonical, IsPayload}
use Rattle.frames.specs.Reading.{Progress as ReadSoFar, Reads}
use Rattle.frames.specs.declared.frame.Frame.{Frame}
use Rattle.frames.specs.declared.frame.Frame.TheVariants.{Message}
use Rattle.message_demux.specs.Kept.{InboxContents}
use Rattle.plan_gates.specs.Messages.{stages}
use Rattle.joint_run.specs.Party.{Inbox}
use Rattle.gate_tasks.specs.declared.outgoing.Out.{Out}
use Rattle.peer_streams.specs.declared.run.Run.{Run}
use Rattle.peer_streams.specs.Reading.{KeepsOf}
use Rattle.peer_streams.specs.Runs.{party, place_in, hellos_from, ends_for}
use Rattle.peer_streams.specs.Sending.{AreSent, AreBegun, bytes_for}
use Rattle.peer_streams.specs.Taking.{AreTaken}
use Rattle.party_stages.specs.Following.{Side, me_of, hand_of, Extends, Progress, said_at, outs_before}

-- the frame of a message
abbrev pub frame_of : Out → Frame
frame_of out = Message out.gate out.round out.payload

-- the bytes of messages, by receiver
abbrev pub bytes_to : ℕ → Out → List ℕ
bytes_to q out = if out.to.0 == q then canonical (frame_of out) else []

abbrev pub bytes_of : List Out → ByParty
bytes_of outs q = flat_map (bytes_to q) outs

-- the messages at a gate
abbrev pub at_gate : ℕ → List Out → List Out
at_gate g outs = filter (λ out. out.gate == g) outs

-- What was sent behind what was sent before: each message that the stages run so far have given, once, those of a gate in their order.
pub record HasSaid (before now : Option ByParty) (p : Progress) : Type 0 where
  pub log : List Out
  pub sent : AreSent before now (bytes_of log)
  pub each : (g : ℕ) → at_gate g log ≡ said_at p.said g

-- Messages that the equations give, each once: at each gate those of its first stages.
abbrev pub IsLawful : Side → InboxContents → List Out → Type 0
IsLawful b inbox log =
    (g : ℕ) → (n : ℕ) × (n ≤ stages b.plan (me_of b) g)
    × ((got : Inbox) → Extends inbox got → at_gate g log ≡ outs_before (hand_of b got g) (got g) n)

-- first bytes of such messages were sent
pub record HasBegun (b : Side) (inbox : InboxContents) (before now : Option ByParty) : Type 0 where
  pub log : List Out
  pub lawful : IsLawful b inbox log
  pub sent : AreBegun before now (bytes_of log)

-- What an inbox keeps are the messages that first bytes of each peer hold. All of these were taken, of those that links had
-- left before.
pub record CameIn (before : ByParty) (told : Option ByParty) (place : Place) (inbox : InboxContents) : Type 0 where
  pub first : ByParty
  pub behind : ByParty
  pub are_taken : AreTaken before told (λ q. first q ++ behind q)
  pub each : (q : ℕ) → IsPeer (Some place) q →
      (frames : List Frame) × (progress : ReadSoFar) × Reads (first q) frames progress × KeepsOf inbox (party q) frames

-- What was sent until an end that may be any: first bytes of messages that the equations give, each once, for messages that came in.
pub record HasSaidSome (b : Side) (place : Place) (before : ByParty) (told sent now : Option ByParty) : Type 0 where
  pub inbox : InboxContents
  pub came : CameIn before told place inbox
  pub log : List Out
  pub lawful : IsLawful b inbox log
  pub sent_is : AreBegun sent now (bytes_of log)

-- what a party sends each other one: Hello, its messages, End
abbrev pub talk_of : Run → Party → List Out → ByParty
talk_of run me log q =
    bytes_for me.0 (hellos_from run me) q ++ (bytes_of log q ++ bytes_for me.0 (ends_for run) q)

-- what was sent behind what was sent before: Hello, what the stages run so far have given, each message once, and End
pub record HasTalked (run : Run) (me : Party) (before now : Option ByParty) (p : Progress) : Type 0 where
  pub log : List Out
  pub all : AreSent before now (talk_of run me log)
  pub each : (g : ℕ) → at_gate g log ≡ said_at p.said g

-- What a run that was refused has sent: of Hello, messages that the equations give for messages that came in, each once, and
-- End, to each other party the first bytes.
pub record HasTalkedSome (b : Side) (run : Run) (me : Party) (before : ByParty) (told sent now : Option ByParty) : Type 0 where
  pub inbox : InboxContents
  pub came : CameIn before told (place_in run me) inbox
  pub log : List Out
  pub lawful : IsLawful b inbox log
  pub sent_is : AreBegun sent now (talk_of run me log)

-- a message goes to a peer, and a frame may carry it
pub record CanSend (place : Place) (out : Out) : Type 0 where
  pub peer : IsPeer (Some place) out.to.0
  pub fits : IsPayload out.payload

-- where a party of a plan is connected
pub record IsPlaceOf (b : Side) (place : Place) : Type 0 where
  pub me : place.me.0 ≡ me_of b
  pub parties : place.parties ≡ b.plan.parties
