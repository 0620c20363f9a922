-- How far the bytes of a peer were read, and what they show.
use Rattle.std.specs.Prelude.{◌≡◌, ℕ, Bool, List, length, Option, Some, None, nat_le, if◌then◌else◌}
use Rattle.std.specs.FinMap as map
use Rattle.std.specs.Option.{option_or, option_map}
use Rattle.mot_base.specs.Limits.{peer_bytes}
use Rattle.mot_base.specs.Links.{IsPeer}
use Rattle.mot_base.specs.declared.Party.{Party}
use Rattle.mot_base.specs.declared.links.Place.{Place}
use Rattle.frames.specs.Reading.{Progress, Reads, fault_of}
use Rattle.frames.specs.declared.frame.Hello as hello
use Rattle.frames.specs.declared.frame.Frame.{Frame}
use Rattle.message_demux.specs.declared.slots.Slot.{Slot}
use Rattle.message_demux.specs.declared.slots.SlotSpec.{SlotSpec}
use Rattle.message_demux.specs.Kept.{InboxContents}
use Rattle.peer_streams.specs.declared.error.PartyError.{PartyError}
use Rattle.peer_streams.specs.declared.error.PartyError.TheVariants as cause
use Rattle.peer_streams.specs.Judging.{first_cause, kept_in, is_begun}

-- what so many bytes of a peer, which were read so far, show beside their frames: a bad frame, or
-- that they are too many
abbrev pub bytes_cause : Party → Progress → ℕ → Option PartyError
bytes_cause peer progress count =
    option_or (option_map (cause.Frame peer) (fault_of progress))
    (if nat_le peer_bytes count then Some (cause.TooManyBytes peer) else None)

-- the first cause that so many bytes of a peer show, which hold these frames and were read so far
abbrev pub cause_read : hello.Hello → List SlotSpec → List Frame → Progress → ℕ → Option PartyError
cause_read expected slots frames progress count =
    option_or (first_cause expected slots frames) (bytes_cause expected.from progress count)

-- what the bytes of the peer of whom this Hello is expected show
abbrev pub Shows : hello.Hello → List SlotSpec → List ℕ → Option PartyError → Type 0
Shows expected slots bytes cause =
    (frames : List Frame) × (progress : Progress) × Reads bytes frames progress
    × (cause_read expected slots frames progress (length bytes) ≡ cause)

-- of a peer's messages an inbox keeps what its frames give
abbrev pub KeepsOf : InboxContents → Party → List Frame → Type 0
KeepsOf inbox peer frames =
    (slot : Slot) → slot.from ≡ peer → map.get inbox.kept slot ≡ kept_in peer frames slot

-- what one inbox keeps is kept by another one too
abbrev pub StillKeeps : InboxContents → InboxContents → Type 0
StillKeeps before after =
    (slot : Slot) (payload : List ℕ) → map.get before.kept slot ≡ Some payload → map.get after.kept slot ≡ Some payload

-- what an inbox keeps of those that are no peers is kept by another one too, and nothing else of them
abbrev pub KeepsOthers : Place → InboxContents → InboxContents → Type 0
KeepsOthers place before after =
    (slot : Slot) → (IsPeer (Some place) slot.from.0 → ⊥) → map.get after.kept slot ≡ map.get before.kept slot

-- how far a peer was read: the Hello that is expected of it, how far its bytes were cut into frames,
-- how many bytes they are, and whether it has greeted
pub record PeerRead : Type 0 where
  pub expected : hello.Hello
  pub progress : Progress
  pub taken : ℕ
  pub greeted : Bool

-- these are the peer's bytes, they show no cause, and the inbox keeps their messages
pub record HasRead (inbox : InboxContents) (bytes : List ℕ) (peer : PeerRead) : Type 0 where
  pub frames : List Frame
  pub reads : Reads bytes frames peer.progress
  pub taken : peer.taken ≡ length bytes
  pub greeted : peer.greeted ≡ is_begun frames
  pub clean : cause_read peer.expected inbox.slots frames peer.progress (length bytes) ≡ None
  pub keeps : KeepsOf inbox peer.expected.from frames
