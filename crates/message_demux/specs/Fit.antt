-- Which payload fits an expected message.
use Rattle.std.specs.Prelude.{◌≡◌, ℕ, ◌-◌, ◌^◌, ◌==◌, min, List, length, Option, Some, None, if◌then◌else◌}
use Rattle.message_demux.specs.declared.slots.Slot.{Slot}
use Rattle.message_demux.specs.declared.slots.SlotSpec.{SlotSpec}
use Rattle.message_demux.specs.declared.inbox.Refused.{Refused}
use Rattle.message_demux.specs.declared.inbox.Refused.TheVariants.{PayloadLength, HighBits}
use Rattle.message_demux.specs.Slots.{slot_of, listed, has_high_bits}

-- a length as it is told, in 32 bits
abbrev pub told_length : List ℕ → ℕ
told_length payload = min (length payload) (2 ^ 32 - 1)

-- why a payload does not fit an expected message: by its length, and else by its bits
abbrev pub unfit : SlotSpec → List ℕ → Option Refused
unfit spec payload =
    if length payload == spec.len then
    (if has_high_bits spec.shape payload then Some (HighBits (slot_of spec)) else None)
    else Some (PayloadLength (slot_of spec) spec.len (told_length payload))

-- a message of the slot is expected, and the payload fits it
abbrev pub Fits : List SlotSpec → Slot → List ℕ → Type 0
Fits specs slot payload = (spec : SlotSpec) × (listed specs slot ≡ Some spec) × (unfit spec payload ≡ None)
