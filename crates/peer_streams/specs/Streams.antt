-- Honest streams of a peer: between Hello and End each payload that it has to send, in any order and
-- as often as it likes.
use Rattle.std.specs.Prelude.{◌≡◌, ◌⊎◌, ℕ, ◌<◌, Bool, List, [], ◌∷◌, ◌++◌, length, Option, Some, None}
use Rattle.std.specs.List.{AllByRecursion, slice_get}
use Rattle.mot_base.specs.Limits.{peer_bytes}
use Rattle.mot_base.specs.Links.{ByParty, IsPeer}
use Rattle.mot_base.specs.declared.links.Place.{Place}
use Rattle.frames.specs.Bytes.{canonical, joined}
use Rattle.frames.specs.Reading.{IsBeforeEnd, Reads, Ended}
use Rattle.frames.specs.declared.frame.Hello as hello
use Rattle.frames.specs.declared.frame.Frame.{Frame}
use Rattle.frames.specs.declared.frame.Frame.TheVariants.{Hello, Message, End}
use Rattle.message_demux.specs.declared.slots.SlotSpec.{SlotSpec}
use Rattle.message_demux.specs.Fit.{Fits}
use Rattle.message_demux.specs.Slots.{slot_at}
use Rattle.peer_streams.specs.declared.error.PartyError.{PartyError}
use Rattle.peer_streams.specs.Judging.{kept_in, first_cause}
use Rattle.peer_streams.specs.Reading.{Shows}
use Rattle.peer_streams.specs.Sending.{IsOfLinks}
use Rattle.peer_streams.specs.Taking.{IsAnswer}

-- what a peer has to send: the payload for a round of a gate, if there is one
abbrev pub ToSend : Type 0
ToSend = ℕ → ℕ → Option (List ℕ)

-- a frame behind the first Hello and before End: a further equal Hello, or a payload that is to be sent
abbrev pub IsHonestFrame : hello.Hello → ToSend → Frame → Type 0
IsHonestFrame expected sends (Hello h) = h ≡ expected
IsHonestFrame expected sends (Message gate round payload) = sends gate round ≡ Some payload
IsHonestFrame expected sends End = ⊥

abbrev pub AreHonest : hello.Hello → ToSend → List Frame → Type 0
AreHonest expected sends frames = AllByRecursion (IsHonestFrame expected sends) frames

-- one of the frames
abbrev pub IsAmong : Frame → List Frame → Type 0
IsAmong frame [] = ⊥
IsAmong frame (f ∷ frames) = (frame ≡ f) ⊎ IsAmong frame frames

-- An honest stream of the peer of whom this Hello is expected: that Hello, honest frames with each
-- payload that is to be sent at least once, End, and whatever stands behind it, fewer bytes together
-- than are too many.
pub record IsHonestStream (expected : hello.Hello) (sends : ToSend) (bytes : List ℕ) : Type 0 where
  pub frames : List Frame
  pub behind : List ℕ
  pub is : bytes ≡ joined (Hello expected ∷ frames) ++ (canonical End ++ behind)
  pub may_stand : AllByRecursion IsBeforeEnd (Hello expected ∷ frames)
  pub honest : AreHonest expected sends frames
  pub all : (gate round : ℕ) (payload : List ℕ) → sends gate round ≡ Some payload → IsAmong (Message gate round payload) frames
  pub few : length bytes < peer_bytes

-- what a peer has to send is what is expected of it: each payload fits its slot, and each slot of the
-- peer has a payload
pub record AreExpected (expected : hello.Hello) (sends : ToSend) (slots : List SlotSpec) : Type 0 where
  pub fit : (gate round : ℕ) (payload : List ℕ) → sends gate round ≡ Some payload → Fits slots (slot_at expected.from gate round) payload
  pub all : AllByRecursion (λ spec. spec.from ≡ expected.from → (payload : List ℕ) × (sends spec.gate spec.round ≡ Some payload)) slots

-- frames keep each payload that is to be sent
abbrev pub KeepAll : hello.Hello → ToSend → List Frame → Type 0
KeepAll expected sends frames =
    (gate round : ℕ) (payload : List ℕ) → sends gate round ≡ Some payload
    → kept_in expected.from frames (slot_at expected.from gate round) ≡ Some payload

-- honest frames give to a slot the payload that is to be sent there, whatever their order and repeats
abbrev pub HonestFramesAreKept : Type 0
HonestFramesAreKept =
    (expected : hello.Hello) (sends : ToSend) (frames : List Frame) (gate round : ℕ) (payload : List ℕ)
    → AreHonest expected sends frames → IsAmong (Message gate round payload) frames
    → kept_in expected.from frames (slot_at expected.from gate round) ≡ Some payload

-- honest frames behind a Hello show no cause, however many of them came
abbrev pub HonestFramesShowNothing : Type 0
HonestFramesShowNothing =
    (expected : hello.Hello) (sends : ToSend) (slots : List SlotSpec) (frames : List Frame)
    → AreHonest expected sends frames → AreExpected expected sends slots
    → first_cause expected slots (Hello expected ∷ frames) ≡ None

-- an honest stream is read to its End, shows no cause, and has all that is to be sent
abbrev pub HonestStreamsEnd : Type 0
HonestStreamsEnd =
    (expected : hello.Hello) (sends : ToSend) (slots : List SlotSpec) (bytes : List ℕ)
    → IsHonestStream expected sends bytes → AreExpected expected sends slots
    → (frames : List Frame) × Reads bytes frames Ended
    × (first_cause expected slots frames ≡ None) × KeepAll expected sends frames

-- the first bytes of an honest stream, however many, show no cause
abbrev pub HonestStreamsShowNothing : Type 0
HonestStreamsShowNothing =
    (expected : hello.Hello) (sends : ToSend) (slots : List SlotSpec) (bytes some rest : List ℕ) (shown : Option PartyError)
    → IsHonestStream expected sends bytes → AreExpected expected sends slots
    → bytes ≡ some ++ rest → Shows expected slots some shown → shown ≡ None

-- each peer's bytes are an honest stream of what is expected of it
abbrev pub AreHonestStreams : ByParty → Place → List hello.Hello → (ℕ → ToSend) → List SlotSpec → Type 0
AreHonestStreams before place hellos sends slots =
    (q : ℕ) (expected : hello.Hello) → IsPeer (Some place) q → slice_get hellos q ≡ Some expected
    → IsHonestStream expected (sends q) (before q) × AreExpected expected (sends q) slots

-- where each peer's bytes are an honest stream, an answer tells of the links alone
abbrev pub HonestPeersShowNothing : Type 0
HonestPeersShowNothing =
    (before : ByParty) (told : Option ByParty) (closed : ℕ → Bool) (place : Place) (hellos : List hello.Hello)
    (sends : ℕ → ToSend) (slots : List SlotSpec) (answer : PartyError)
    → AreHonestStreams before place hellos sends slots
    → IsAnswer before told closed place hellos slots answer → IsOfLinks answer
