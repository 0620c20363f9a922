-- What a list of messages leaves in an inbox.
use Rattle.std.specs.Prelude.{◌≡◌, ◌↔◌, ℕ, List, [], ◌∷◌, ◌⊎◌, Option, Some, None}
use Rattle.std.specs.FinMap as map
use Rattle.message_demux.specs.declared.slots.Slot.{Slot}
use Rattle.message_demux.specs.declared.slots.SlotSpec.{SlotSpec}
use Rattle.message_demux.specs.declared.inbox.Refused.{Refused}
use Rattle.message_demux.specs.Fit.{Fits}
use Rattle.message_demux.specs.Kept.{InboxContents}
use Rattle.message_demux.specs.Inbox.{empty_inbox, with_payload, refusal}

pub record Message : Type 0 where
  pub slot : Slot
  pub payload : List ℕ

-- the message is one of the list
abbrev pub IsIn : Message → List Message → Type 0
IsIn message [] = ⊥
IsIn message (m ∷ messages) = (message ≡ m) ⊎ IsIn message messages

-- the inbox after a list of messages, if none of them is refused
abbrev pub unless_refused : Option Refused → Option InboxContents → Option InboxContents
unless_refused None after = after
unless_refused (Some refused) after = None

abbrev pub after_all : InboxContents → List Message → Option InboxContents
after_all inbox [] = Some inbox
after_all inbox (m ∷ messages) =
    unless_refused
    (refusal inbox m.slot m.payload)
    (after_all (with_payload inbox m.slot m.payload) messages)

-- messages of which none is refused, in any order: each fits, and no slot has two payloads
pub record IsAcceptable (slots : List SlotSpec) (messages : List Message) : Type 0 where
  pub fit : (m : Message) → IsIn m messages → Fits slots m.slot m.payload
  pub agree : (m n : Message) → IsIn m messages → IsIn n messages → m.slot ≡ n.slot → m.payload ≡ n.payload

-- none of a list of messages is refused exactly where the list is acceptable
abbrev pub NoneRefused : Type 0
NoneRefused =
    (slots : List SlotSpec) (messages : List Message)
    → ((inbox : InboxContents) × (after_all (empty_inbox slots) messages ≡ Some inbox))
    ↔ IsAcceptable slots messages

-- then the inbox keeps the payloads of these messages, and no others
abbrev pub KeepsMessages : Type 0
KeepsMessages =
    (slots : List SlotSpec) (messages : List Message) (inbox : InboxContents)
    → after_all (empty_inbox slots) messages ≡ Some inbox
    → (m : Message) → (map.get inbox.kept m.slot ≡ Some m.payload) ↔ IsIn m messages

-- so the order of messages and their repeats change nothing
abbrev pub OrderIsNothing : Type 0
OrderIsNothing =
    (slots : List SlotSpec) (messages others : List Message) (here there : InboxContents)
    → ((m : Message) → IsIn m messages ↔ IsIn m others)
    → after_all (empty_inbox slots) messages ≡ Some here
    → after_all (empty_inbox slots) others ≡ Some there
    → here ≡ there
