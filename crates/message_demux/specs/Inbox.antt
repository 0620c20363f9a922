-- An inbox: the messages that it expects, what it keeps of them, and how it answers a message.
use Rattle.std.specs.Prelude.{ℕ, ◌==◌, ◌&&◌, Bool, List, length, Option, Some, None, is_none, if◌then◌else◌}
use Rattle.std.specs.FinMap as map
use Rattle.std.specs.List.{find, sum_by}
use Rattle.std.specs.Option.{option_or, option_map}
use Rattle.std.specs.Str.{bytes_eq}
use Rattle.message_demux.specs.declared.slots.Slot.{Slot}
use Rattle.message_demux.specs.declared.slots.SlotSpec.{SlotSpec}
use Rattle.message_demux.specs.declared.inbox.Delivered.{Delivered}
use Rattle.message_demux.specs.declared.inbox.Delivered.TheVariants.{New, Again}
use Rattle.message_demux.specs.declared.inbox.Refused.{Refused}
use Rattle.message_demux.specs.declared.inbox.Refused.TheVariants.{UnknownSlot, RepeatDiffers}
use Rattle.message_demux.specs.Fit.{unfit}
use Rattle.message_demux.specs.Kept.{InboxContents}
use Rattle.message_demux.specs.Slots.{slot_of, listed}

-- an inbox that keeps nothing yet
abbrev pub empty_inbox : List SlotSpec → InboxContents
empty_inbox slots = record { slots = slots; kept = map.empty }

-- the inbox that keeps one payload more
abbrev pub with_payload : InboxContents → Slot → List ℕ → InboxContents
with_payload inbox slot payload = record inbox { kept = map.insert inbox.kept slot payload }

-- why a payload is no repeat of the one that is kept
abbrev pub differs : Slot → List ℕ → Option (List ℕ) → Option Refused
differs slot payload None = None
differs slot payload (Some kept) =
    if bytes_eq kept payload then None else Some (RepeatDiffers slot kept payload)

-- why a message is refused: no such slot is expected, the payload does not fit it, or another payload
-- is kept for it, in this order
abbrev pub refusal_by : Slot → List ℕ → Option SlotSpec → Option (List ℕ) → Option Refused
refusal_by slot payload None kept = Some (UnknownSlot slot)
refusal_by slot payload (Some spec) kept = option_or (unfit spec payload) (differs slot payload kept)

abbrev pub refusal : InboxContents → Slot → List ℕ → Option Refused
refusal inbox slot payload = refusal_by slot payload (listed inbox.slots slot) (map.get inbox.kept slot)

-- what was kept before for a slot, where a message was not refused
abbrev pub kept_before : Delivered → List ℕ → Option (List ℕ)
kept_before New payload = None
kept_before Again payload = Some payload

-- the inbox after it
abbrev pub after : Delivered → InboxContents → Slot → List ℕ → InboxContents
after New inbox slot payload = with_payload inbox slot payload
after Again inbox slot payload = inbox

-- whether a message of a sender is expected and did not come
abbrev pub is_missing : InboxContents → ℕ → SlotSpec → Bool
is_missing inbox peer spec = spec.from.0 == peer && is_none (map.get inbox.kept (slot_of spec))

-- the slot of the first such message
abbrev pub missing : InboxContents → ℕ → Option Slot
missing inbox peer = option_map slot_of (find (is_missing inbox peer) inbox.slots)

-- how many bytes the kept payloads have together
abbrev pub kept_bytes : InboxContents → ℕ
kept_bytes inbox = sum_by length (map.values inbox.kept)
