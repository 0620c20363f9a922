-- How far the bytes of all peers were taken from links, and what they show.
use Rattle.std.specs.Prelude.{◌≡◌, ◌≢◌, ◌⊎◌, ◌++◌, ◌&&◌, ℕ, zero, suc, ◌+◌, ◌-◌, ◌<◌, ◌≤◌, Bool, true, not, List, [], length, map, Option, Some, None, if◌then◌else◌}
use Rattle.std.specs.List.{slice_get, sum_by}
use Rattle.std.specs.Option.{option_or}
use Rattle.mot_base.specs.Limits.{peer_bytes}
use Rattle.mot_base.specs.Links.{ByParty, IsPeer}
use Rattle.mot_base.specs.declared.Party.{Party}
use Rattle.mot_base.specs.declared.links.Place.{Place}
use Rattle.frames.specs.Reading.{Progress, Reads, has_ended}
use Rattle.frames.specs.declared.frame.Hello as hello
use Rattle.frames.specs.declared.frame.Frame.{Frame}
use Rattle.message_demux.specs.declared.slots.SlotSpec.{SlotSpec}
use Rattle.message_demux.specs.Kept.{InboxContents}
use Rattle.peer_streams.specs.declared.error.PartyError.{PartyError}
use Rattle.peer_streams.specs.declared.error.PartyError.TheVariants as cause
use Rattle.peer_streams.specs.Reading.{cause_read, PeerRead, HasRead}

-- ---- what a peer shows

-- what a peer shows: its bytes do, or else it closed before its End
abbrev pub peer_cause : hello.Hello → List SlotSpec → List Frame → Progress → ℕ → Bool → Option PartyError
peer_cause expected slots frames progress count closed =
    option_or (cause_read expected slots frames progress count)
    (if closed && not (has_ended progress) then Some (cause.PeerClosed expected.from) else None)

-- the peer of whom this Hello is expected, with these bytes, closed or not, shows this
abbrev pub PeerShows : hello.Hello → List SlotSpec → List ℕ → Bool → Option PartyError → Type 0
PeerShows expected slots bytes closed shown =
    (frames : List Frame) × (progress : Progress) × Reads bytes frames progress
    × (peer_cause expected slots frames progress (length bytes) closed ≡ shown)

-- ---- all peers

-- of the bytes that links had left of each party before, these were taken
abbrev pub AreTaken : ByParty → Option ByParty → ByParty → Type 0
AreTaken before told taken =
    (left : ByParty) × (told ≡ Some left) × ((q : ℕ) → before q ≡ taken q ++ left q)

-- where links tell what they have left of each party, they tell it still, and it is what was left behind first bytes of it
abbrev pub IsLeftOf : Option ByParty → Option ByParty → Type 0
IsLeftOf None after = Unit {0}
IsLeftOf (Some left) after = (taken : ByParty) × AreTaken left after taken

-- there is an entry for each party, in the order of their numbers; those that are closed have ended,
-- and none has too many bytes
pub record ArePeers (place : Place) (closed : ℕ → Bool) (peers : List PeerRead) : Type 0 where
  pub count : length peers ≡ place.parties
  pub in_order : (q : ℕ) (peer : PeerRead) → slice_get peers q ≡ Some peer → peer.expected.from.0 ≡ q
  pub ended : (q : ℕ) (peer : PeerRead) → slice_get peers q ≡ Some peer → closed q ≡ true → has_ended peer.progress ≡ true
  pub room : (q : ℕ) (peer : PeerRead) → slice_get peers q ≡ Some peer → peer.taken < peer_bytes

-- of the bytes that links had left before, these were taken from each peer, they show no cause, and
-- the inbox keeps their messages
pub record HasTaken (before : ByParty) (told : Option ByParty) (place : Place) (inbox : InboxContents) (peers : List PeerRead) : Type 0 where
  pub taken : ByParty
  pub are_taken : AreTaken before told taken
  pub read : (q : ℕ) (peer : PeerRead) → IsPeer (Some place) q → slice_get peers q ≡ Some peer → HasRead inbox (taken q) peer

-- of each peer some bytes were read, told or not, that show no cause, and the inbox keeps their messages
abbrev pub HaveRead : Place → InboxContents → List PeerRead → Type 0
HaveRead place inbox peers =
    (q : ℕ) (peer : PeerRead) → IsPeer (Some place) q → slice_get peers q ≡ Some peer →
    (bytes : List ℕ) × HasRead inbox bytes peer

-- nothing was read of any party yet
abbrev pub AreFresh : InboxContents → List PeerRead → Type 0
AreFresh inbox peers =
    (q : ℕ) (peer : PeerRead) → slice_get peers q ≡ Some peer → (peer.expected.from.0 ≡ q) × HasRead inbox [] peer

-- the Hellos that are expected of the parties
abbrev pub hellos_of : List PeerRead → List hello.Hello
hellos_of peers = map (λ peer. peer.expected) peers

-- ---- what ends the taking

-- what was taken of each peer shows no cause
pub record ShowsNothing (before : ByParty) (told : Option ByParty) (closed : ℕ → Bool) (place : Place) (hellos : List hello.Hello) (slots : List SlotSpec) : Type 0 where
  pub taken : ByParty
  pub are_taken : AreTaken before told taken
  pub each : (p : ℕ) (expected : hello.Hello) → IsPeer (Some place) p → slice_get hellos p ≡ Some expected → PeerShows expected slots (taken p) (closed p) None

-- what was taken of some peer shows the cause, and of each other one none; where the peer closed too
-- early, all of its bytes were taken
pub record IsShown (before : ByParty) (told : Option ByParty) (closed : ℕ → Bool) (place : Place) (hellos : List hello.Hello) (slots : List SlotSpec) (shown : PartyError) : Type 0 where
  pub q : ℕ
  pub expected : hello.Hello
  pub is_peer : IsPeer (Some place) q
  pub there : slice_get hellos q ≡ Some expected
  pub taken : ByParty
  pub are_taken : AreTaken before told taken
  pub shows : PeerShows expected slots (taken q) (closed q) (Some shown)
  pub whole : (p : Party) → shown ≡ cause.PeerClosed p → taken q ≡ before q
  pub others : (p : ℕ) (other : hello.Hello) → IsPeer (Some place) p → p ≢ q → slice_get hellos p ≡ Some other → PeerShows other slots (taken p) (closed p) None

-- What an answer tells of the peers: want of memory nothing, a fault of the links that none shows a
-- cause, and each other one that some peer shows it, and no other peer any.
abbrev pub IsAnswer : ByParty → Option ByParty → (ℕ → Bool) → Place → List hello.Hello → List SlotSpec → PartyError → Type 0
IsAnswer before told closed place hellos slots shown =
    (shown ≡ cause.NoMemory)
    ⊎ (((shown ≡ cause.LinkFault) × ShowsNothing before told closed place hellos slots)
    ⊎ IsShown before told closed place hellos slots shown)

-- Where what was taken of some peer shows a cause, the answer is that cause, or want of memory.
abbrev pub AnswersAreShown : Type 0
AnswersAreShown =
    (before : ByParty) (told : Option ByParty) (closed : ℕ → Bool) (place : Place) (hellos : List hello.Hello)
    (slots : List SlotSpec) (answer shown : PartyError)
    → IsAnswer before told closed place hellos slots answer
    → (q : ℕ) (expected : hello.Hello) (taken : ByParty) → IsPeer (Some place) q → slice_get hellos q ≡ Some expected
    → AreTaken before told taken → PeerShows expected slots (taken q) (closed q) (Some shown)
    → (answer ≡ cause.NoMemory) ⊎ (answer ≡ shown)

-- the party that an answer names is a peer, and is told as closed where it closed too early
abbrev pub NamesPeer : Option Place → (ℕ → Bool) → PartyError → Type 0
NamesPeer place closed (cause.HelloMissing p) = IsPeer place p.0
NamesPeer place closed (cause.HelloDiffers p field ours theirs) = IsPeer place p.0
NamesPeer place closed (cause.Frame p fault) = IsPeer place p.0
NamesPeer place closed (cause.Refused p refusal) = IsPeer place p.0
NamesPeer place closed (cause.EndEarly p slot) = IsPeer place p.0
NamesPeer place closed (cause.TooManyBytes p) = IsPeer place p.0
NamesPeer place closed (cause.PeerClosed p) = IsPeer place p.0 × (closed p.0 ≡ true)
NamesPeer place closed (cause.TooFew few) = Unit {0}
NamesPeer place closed cause.LinkFault = Unit {0}
NamesPeer place closed cause.NoMemory = Unit {0}

-- ---- how many events may still come

-- of each party so many bytes may still be taken
abbrev pub HaveRoom : List PeerRead → ℕ → Type 0
HaveRoom peers size = (q : ℕ) (peer : PeerRead) → slice_get peers q ≡ Some peer → peer.taken + size ≤ peer_bytes

-- how many bytes may still be taken, of all parties together
abbrev pub room_left : List PeerRead → ℕ
room_left peers = sum_by (λ peer. peer_bytes - peer.taken) peers

-- how many of so many parties are not told as closed
abbrev pub open_left : ℕ → (ℕ → Bool) → ℕ
open_left zero closed = 0
open_left (suc n) closed = open_left n closed + (if closed n then 0 else 1)

-- no more events than this come, where none ends the taking
abbrev pub events_left : Place → (ℕ → Bool) → List PeerRead → ℕ
events_left place closed peers = room_left peers + open_left place.parties closed
