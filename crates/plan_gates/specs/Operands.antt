-- The operands of a gate as the code has them.
use Rattle.std.specs.Prelude.{ℕ, List, ◌++◌}
use Rattle.std.specs.Option.{option_to_list}
use Rattle.plan_gates.specs.declared.gate.Operands.{Operands}

-- those that are there, in order
abbrev pub listed : Operands → List ℕ
listed o = option_to_list o.first ++ (option_to_list o.second ++ option_to_list o.third)
