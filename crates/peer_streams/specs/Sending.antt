-- What is sent to each party.
use Rattle.std.specs.Prelude.{◌≡◌, ℕ, ◌==◌, List, [], ◌++◌, take, Option, Some, None, if◌then◌else◌}
use Rattle.std.specs.List.{slice_get}
use Rattle.mot_base.specs.Links.{ByParty}
use Rattle.mot_base.specs.declared.links.LinkError.{LinkError}
use Rattle.mot_base.specs.declared.links.LinkError.TheVariants as link
use Rattle.frames.specs.Bytes.{canonical}
use Rattle.frames.specs.declared.frame.Frame.{Frame}
use Rattle.peer_streams.specs.declared.error.PartyError.{PartyError}
use Rattle.peer_streams.specs.declared.error.PartyError.TheVariants as cause

-- where what was sent is told, these bytes were sent to each party behind those before
abbrev pub AreSent : Option ByParty → Option ByParty → ByParty → Type 0
AreSent None now bytes = Unit {0}
AreSent (Some before) None bytes = ⊥
AreSent (Some before) (Some now) bytes = (q : ℕ) → now q ≡ before q ++ bytes q

-- where what was sent is told, some first ones of these bytes, or all, were sent to each party
-- behind those before
abbrev pub AreBegun : Option ByParty → Option ByParty → ByParty → Type 0
AreBegun None now bytes = Unit {0}
AreBegun (Some before) None bytes = ⊥
AreBegun (Some before) (Some now) bytes = (q : ℕ) → (n : ℕ) × (now q ≡ before q ++ take n (bytes q))

-- the canonical bytes of a frame, if there is one
abbrev pub frame_bytes : Option Frame → List ℕ
frame_bytes None = []
frame_bytes (Some frame) = canonical frame

-- what is sent of frames by receiver: to each party but the sender the one at its place
abbrev pub bytes_for : ℕ → List Frame → ByParty
bytes_for me frames q = if q == me then [] else frame_bytes (slice_get frames q)

-- what a refusal of links is told as
abbrev pub link_cause : LinkError → PartyError
link_cause link.Failed = cause.LinkFault
link_cause link.NoMemory = cause.NoMemory

-- an answer that tells nothing of peers
abbrev pub IsOfLinks : PartyError → Type 0
IsOfLinks cause.LinkFault = Unit {0}
IsOfLinks cause.NoMemory = Unit {0}
IsOfLinks other = ⊥
