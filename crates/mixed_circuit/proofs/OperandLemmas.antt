-- The operands that names are of, one after another.
use Rattle.std.proofs.Common.{List, ◌++◌, Option}
use Rattle.std.specs.Prelude.{option_map}
use Rattle.mixed_language.specs.declared.operand.Operand.{Operand}

-- some first operands, and those of the names that are left
abbrev pub behind_first : List Operand → Option (List Operand) → Option (List Operand)
behind_first front o = option_map (λ more. front ++ more) o
