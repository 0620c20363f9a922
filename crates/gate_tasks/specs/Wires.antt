-- Values by gate.
use Rattle.std.specs.Prelude.{ℕ, List, get_or, slice_set, replicate, Option, Some, None}

-- the value of a gate, if there is one
abbrev pub value_held : {V : Type 0} → List (Option V) → ℕ → Option V
value_held wires gate = get_or wires gate None

-- no values of so many gates
abbrev pub no_values : {V : Type 0} → ℕ → List (Option V)
no_values gates = replicate gates None

-- the same with one value more
abbrev pub with_value : {V : Type 0} → List (Option V) → ℕ → V → List (Option V)
with_value wires gate value = slice_set wires gate (Some value)
