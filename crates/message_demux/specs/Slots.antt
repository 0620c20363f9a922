-- The messages that a party expects, and which payload fits one.
use Rattle.std.specs.Prelude.{◌≡◌, ℕ, zero, suc, ◌+◌, ◌*◌, ◌/◌, ◌<◌, ◌≤◌, ◌^◌, Bool, false, List, [], ◌∷◌, length, map, take, drop, Option, Some, None, nat_le, slice_index_or}
use Rattle.std.specs.List.{list_any, find, AllByRecursion}
use Rattle.std.specs.List.Sorted.{IsStrictlySortedBy}
use Rattle.std.specs.declared.cmp.Ordering.{Ordering}
use Rattle.std.specs.Ordering.{nat_cmp, on, then_cmp, eq_by_cmp}
use Rattle.byteorder.specs.Endian.{big_number}
use Rattle.mot_base.specs.Limits.{most_width, most_payload_bytes}
use Rattle.mot_base.specs.declared.Party.{Party}
use Rattle.message_demux.specs.declared.slots.Slot.{Slot}
use Rattle.message_demux.specs.declared.slots.SlotSpec.{SlotSpec}
use Rattle.message_demux.specs.declared.slots.Shape.{Shape}
use Rattle.message_demux.specs.declared.slots.Shape.TheVariants.{Words, Vectors}

-- slots are ordered by sender, then by gate, then by round
abbrev pub slot_cmp : Slot → Slot → Ordering
slot_cmp =
    then_cmp
    (on (λ slot. slot.from.0) nat_cmp)
    (then_cmp (on (λ slot. slot.gate) nat_cmp) (on (λ slot. slot.round) nat_cmp))

-- the slot of an expected message, and that of a sender, a gate and a round
abbrev pub slot_of : SlotSpec → Slot
slot_of spec = record { from = spec.from; gate = spec.gate; round = spec.round }

abbrev pub slot_at : Party → ℕ → ℕ → Slot
slot_at from gate round = record { from = from; gate = gate; round = round }

-- the expected message of a slot
abbrev pub listed : List SlotSpec → Slot → Option SlotSpec
listed specs slot = find (λ spec. eq_by_cmp slot_cmp (slot_of spec) slot) specs

-- how many bytes a vector of a width has
abbrev pub vector_bytes : ℕ → ℕ
vector_bytes width = (width + 7) / 8

-- bytes cut into a number of vectors of a size each
abbrev pub vectors : ℕ → ℕ → List ℕ → List (List ℕ)
vectors zero size bytes = []
vectors (suc count) size bytes = take size bytes ∷ vectors count size (drop size bytes)

-- whether a vector has a bit at or above its width. A vector is written as its number, the high byte
-- first.
abbrev pub overflows : ℕ → List ℕ → Bool
overflows width vector = nat_le (2 ^ width) (big_number (vector_bytes width) vector)

-- whether some vector of a payload does
abbrev pub has_high_bits : Shape → List ℕ → Bool
has_high_bits Words payload = false
has_high_bits (Vectors count width) payload =
    list_any (overflows width) (vectors count (vector_bytes width) payload)

-- a shape that a payload of a length can have
abbrev pub IsShapeOf : Shape → ℕ → Type 0
IsShapeOf Words length = Unit {0}
IsShapeOf (Vectors count width) length =
    (1 ≤ width) × (width ≤ most_width) × (length ≡ count * vector_bytes width)

-- a message that may be expected
abbrev pub IsSlotSpec : SlotSpec → Type 0
IsSlotSpec spec = (1 ≤ spec.len) × (spec.len ≤ most_payload_bytes) × IsShapeOf spec.shape spec.len

-- messages that may be expected together: in the order of their slots, and no slot twice
pub record IsSlotList (specs : List SlotSpec) : Type 0 where
  pub sorted : IsStrictlySortedBy slot_cmp (map slot_of specs)
  pub few : length specs < 2 ^ 32
  pub each : AllByRecursion IsSlotSpec specs

-- where a slot is among expected messages, or that it is not
abbrev pub IsPlaceOf : List SlotSpec → Slot → Option ℕ → Type 0
IsPlaceOf specs slot (Some place) =
    (place < length specs) × ((d : SlotSpec) → slot_of (slice_index_or specs place d) ≡ slot)
IsPlaceOf specs slot None = listed specs slot ≡ None
