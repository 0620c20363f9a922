-- The values of a gate's operands.
use Rattle.std.specs.Prelude.{◌≡◌, List, [], ◌∷◌, length}
use Rattle.gate_tasks.specs.declared.value.Value.{Value}
use Rattle.local_run.specs.declared.operands.Few.{Few}
use Rattle.local_run.specs.declared.operands.Few.TheVariants.{None, One, Two}

-- the values, in order
abbrev pub values_in : Few → List Value
values_in None = []
values_in (One value) = value ∷ []
values_in (Two values) = values

-- two are two
abbrev pub AreFew : Few → Type 0
AreFew (Two values) = length values ≡ 2
AreFew _ = Unit {0}
