-- How a value is shared, how wide it is, and who learns it.
use Rattle.std.specs.Prelude.{ℕ, ◌==◌, Bool, true, false, Option, Some, None}
use Rattle.mot_base.specs.Limits.{most_width}
use Rattle.share_types.specs.declared.receiver.Receiver.{Receiver}
use Rattle.share_types.specs.declared.receiver.Receiver.TheVariants.{All, One}
use Rattle.share_types.specs.declared.sharing.Sharing.{Sharing}
use Rattle.share_types.specs.declared.sharing.Sharing.TheVariants.{A, B, Y}
use Rattle.share_types.specs.declared.sharing.WireType.{WireType}
use Rattle.share_types.specs.declared.sharing.WireType.TheVariants as wire

-- a value of so many bits that is shared so. A word, which is shared by sum, has 64
abbrev pub wire_type : Sharing → ℕ → WireType
wire_type A width = wire.A
wire_type B width = wire.B width
wire_type Y width = wire.Y width

-- how a value is shared
abbrev pub sharing_of : WireType → Sharing
sharing_of wire.A = A
sharing_of (wire.B width) = B
sharing_of (wire.Y width) = Y

-- how many bits a value has
abbrev pub width_of : WireType → ℕ
width_of wire.A = most_width
width_of (wire.B width) = width
width_of (wire.Y width) = width

-- whether a value is shared so
abbrev pub is_shared : Sharing → WireType → Bool
is_shared A wire.A = true
is_shared B (wire.B width) = true
is_shared Y (wire.Y width) = true
is_shared _ _ = false

-- whether a party is one of those who learn an output
abbrev pub includes : Receiver → ℕ → Bool
includes All party = true
includes (One other) party = other.0 == party

-- the one party that learns an output, if it is not told to all
abbrev pub party_told : Receiver → Option ℕ
party_told All = None
party_told (One party) = Some party.0
