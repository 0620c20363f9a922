-- The operands of a statement, and how wide a value is that is made of them.
use Rattle.std.specs.Prelude.{ℕ, ◌+◌, ◌==◌, nat_le, List, [], ◌∷◌, slice_get, Option, Some, None, option_and_then, if◌then◌else◌}
use Rattle.std.specs.List.{list_all}
use Rattle.mot_base.specs.Limits.{most_width}
use Rattle.share_types.specs.Wires.{width_of}
use Rattle.mixed_language.specs.declared.language.Widths.{Widths}
use Rattle.mixed_language.specs.declared.language.Widths.TheVariants.{Whole, Stated, Alike, Cut, Joined}
use Rattle.mixed_language.specs.declared.operand.Operand.{Operand}

-- the width of the first operand, if all operands have it
abbrev pub alike_width : List Operand → Option ℕ
alike_width operands =
    option_and_then
    (λ first.
    if list_all (λ x. width_of x.wire == width_of first.wire) operands
    then Some (width_of first.wire)
    else None)
    (slice_get operands 0)

-- how wide the value is of which so many bits, from a place on, are stated, if the widths of the operands fit
abbrev pub width_by : Widths → ℕ → ℕ → List Operand → Option ℕ
width_by Whole width place operands = Some most_width
width_by Stated width place operands = Some width
width_by Alike width place operands = alike_width operands
width_by Cut width place (x ∷ []) = if nat_le (place + width) (width_of x.wire) then Some width else None
width_by Joined width place (x ∷ y ∷ []) =
    if nat_le (width_of x.wire + width_of y.wire) most_width
    then Some (width_of x.wire + width_of y.wire)
    else None
width_by _ width place operands = None
