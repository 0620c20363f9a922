-- The gates of a statement as the code makes them.
use Rattle.std.specs.Prelude.{ℕ, Some}
use Rattle.share_types.specs.declared.sharing.WireType.{WireType}
use Rattle.mixed_language.specs.declared.form.Form.{Form}
use Rattle.mixed_language.specs.Circuit.{shape_of}
use Rattle.gate_plan.specs.declared.statement.Setting.{Setting}
use Rattle.gate_plan.specs.Blocks.{Block}
use Rattle.gate_plan.specs.Lowering.{block_of, source_from, is_keys}

-- those of a form whose value, or what it tells, is shared so, of which the first has the number n
abbrev pub block_in : Setting → Form → WireType → ℕ → Block
block_in s form wire n =
    block_of s.parties (shape_of form).operation (is_keys (Some wire))
    (source_from (shape_of form) s.x s.y s.k (Some wire) s.low) n
