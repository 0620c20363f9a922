-- How wide the values of a circuit are.
use Rattle.std.specs.Prelude.{ℕ, ◌≡◌, ◌≤◌, List, Some}
use Rattle.mot_base.specs.Limits.{most_width}
use Rattle.share_types.specs.declared.sharing.WireType.{WireType}
use Rattle.mixed_language.specs.Circuit.{Statement, wire_at}
use Rattle.share_types.specs.Wires.{width_of}

-- a value has 1 to 64 bits
abbrev pub IsWide : WireType → Type 0
IsWide wire = (1 ≤ width_of wire) × (width_of wire ≤ most_width)

-- each value of some statements has 1 to 64 bits
abbrev pub AllWide : List Statement → Type 0
AllWide statements = (at : ℕ) (wire : WireType) → wire_at statements at ≡ Some wire → IsWide wire
