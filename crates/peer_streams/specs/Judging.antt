-- What the frames of a peer show, one behind another.
use Rattle.std.specs.Prelude.{◌≡◌, ℕ, ◌-◌, ◌==◌, ◌&&◌, ◌++◌, Bool, true, false, List, [], ◌∷◌, length, replicate, Option, Some, None, is_none, if◌then◌else◌}
use Rattle.std.specs.List.{find}
use Rattle.std.specs.Option.{option_or, option_map}
use Rattle.std.specs.Ordering.{eq_by_cmp}
use Rattle.std.specs.Str.{bytes_eq}
use Rattle.mot_base.specs.declared.Party.{Party}
use Rattle.frames.specs.Bytes.{u64_bytes}
use Rattle.frames.specs.declared.frame.Hello as hello
use Rattle.frames.specs.declared.frame.Frame.{Frame}
use Rattle.frames.specs.declared.frame.Frame.TheVariants.{Hello, Message, End}
use Rattle.message_demux.specs.declared.slots.Slot.{Slot}
use Rattle.message_demux.specs.declared.slots.SlotSpec.{SlotSpec}
use Rattle.message_demux.specs.Inbox.{refusal_by}
use Rattle.message_demux.specs.Slots.{slot_cmp, slot_of, slot_at, listed}
use Rattle.peer_streams.specs.declared.error.PartyError.{PartyError}
use Rattle.peer_streams.specs.declared.error.PartyError.TheVariants as cause

-- ---- Hello

-- the value of a field as it is shown: its bytes, with zeros in front, 32 in all
abbrev pub padded : List ℕ → List ℕ
padded bytes = replicate (32 - length bytes) 0 ++ bytes

-- a field of a Hello differs from the one that is expected, whose values have these bytes
abbrev pub field_differs : Party → ℕ → List ℕ → List ℕ → Option PartyError
field_differs peer field ours theirs =
    if bytes_eq ours theirs then None else Some (cause.HelloDiffers peer field (padded ours) (padded theirs))

-- the first field in which a Hello differs from the one that is expected of a peer
abbrev pub hello_differs : hello.Hello → hello.Hello → Option PartyError
hello_differs ours theirs =
    let peer = ours.from in
    option_or (field_differs peer 0 (ours.version ∷ []) (theirs.version ∷ []))
    (option_or (field_differs peer 1 (ours.parties ∷ []) (theirs.parties ∷ []))
    (option_or (field_differs peer 2 (ours.from.0 ∷ []) (theirs.from.0 ∷ []))
    (option_or (field_differs peer 3 (ours.to.0 ∷ []) (theirs.to.0 ∷ []))
    (option_or (field_differs peer 4 (u64_bytes ours.id) (u64_bytes theirs.id))
    (field_differs peer 5 ours.circuit theirs.circuit)))))

-- ---- messages

-- the payload that a peer's frames give to a slot: that of the first message for it
abbrev pub kept_in : Party → List Frame → Slot → Option (List ℕ)
kept_in peer [] slot = None
kept_in peer (Hello h ∷ frames) slot = kept_in peer frames slot
kept_in peer (End ∷ frames) slot = kept_in peer frames slot
kept_in peer (Message gate round payload ∷ frames) slot =
    if eq_by_cmp slot_cmp slot (slot_at peer gate round) then Some payload else kept_in peer frames slot

-- whether an expected message is a peer's, and not among its frames
abbrev pub is_lacking : List Frame → Party → SlotSpec → Bool
is_lacking frames peer spec = spec.from.0 == peer.0 && is_none (kept_in peer frames (slot_of spec))

-- the slot of the first such message
abbrev pub first_lacking : List SlotSpec → List Frame → Party → Option Slot
first_lacking slots frames peer = option_map slot_of (find (is_lacking frames peer) slots)

-- ---- one frame behind others

-- What a frame shows beside that it is the first: a Hello differs from the expected one, a message
-- is refused, or End came before a message.
abbrev pub own_cause : hello.Hello → List SlotSpec → List Frame → Frame → Option PartyError
own_cause expected slots before (Hello h) = hello_differs expected h
own_cause expected slots before (Message gate round payload) =
    let slot = slot_at expected.from gate round in
    option_map (cause.Refused expected.from)
    (refusal_by slot payload (listed slots slot) (kept_in expected.from before slot))
own_cause expected slots before End =
    option_map (cause.EndEarly expected.from) (first_lacking slots before expected.from)

-- the first frame is no Hello
abbrev pub greeting_cause : hello.Hello → List Frame → Frame → Option PartyError
greeting_cause expected [] (Hello h) = None
greeting_cause expected [] (Message gate round payload) = Some (cause.HelloMissing expected.from)
greeting_cause expected [] End = Some (cause.HelloMissing expected.from)
greeting_cause expected (f ∷ before) frame = None

-- what a frame of the peer of whom this Hello is expected shows behind those before it
abbrev pub cause_of : hello.Hello → List SlotSpec → List Frame → Frame → Option PartyError
cause_of expected slots before frame =
    option_or (greeting_cause expected before frame) (own_cause expected slots before frame)

-- the first cause that frames show behind others
abbrev pub cause_behind : hello.Hello → List SlotSpec → List Frame → List Frame → Option PartyError
cause_behind expected slots before [] = None
cause_behind expected slots before (frame ∷ frames) =
    option_or (cause_of expected slots before frame) (cause_behind expected slots (before ++ frame ∷ []) frames)

-- the first cause that the frames of a peer show
abbrev pub first_cause : hello.Hello → List SlotSpec → List Frame → Option PartyError
first_cause expected slots frames = cause_behind expected slots [] frames

-- whether there is a frame, so that the peer has greeted
abbrev pub is_begun : List Frame → Bool
is_begun [] = false
is_begun (f ∷ frames) = true

-- a cause that the bytes of a peer show, which is named, or want of memory
abbrev pub IsOfPeer : Party → PartyError → Type 0
IsOfPeer q (cause.TooFew few) = ⊥
IsOfPeer q (cause.HelloMissing p) = p ≡ q
IsOfPeer q (cause.HelloDiffers p field ours theirs) = p ≡ q
IsOfPeer q (cause.Frame p fault) = p ≡ q
IsOfPeer q (cause.Refused p refusal) = p ≡ q
IsOfPeer q (cause.EndEarly p slot) = p ≡ q
IsOfPeer q (cause.TooManyBytes p) = p ≡ q
IsOfPeer q (cause.PeerClosed p) = ⊥
IsOfPeer q cause.LinkFault = ⊥
IsOfPeer q cause.NoMemory = Unit {0}
