-- How the values of outputs are written, and which can be written so.
use Rattle.std.specs.Prelude.{◌≤◌, List, All, length}
use Rattle.mot_base.specs.Limits.{most_width}
use Rattle.circuit_tables.specs.Table.{Output, Told}
use Rattle.any_circuit.specs.declared.notation.Notation.{Notation}
use Rattle.any_circuit.specs.declared.notation.Notation.TheVariants.{Decimal, Hexadecimal}

-- whether all outputs can be written so: decimal numbers have at most 64 bits
abbrev pub AreShort : Notation → List Told → Type 0
AreShort Decimal outputs = All (λ t. length t.bits ≤ most_width) outputs
AreShort Hexadecimal outputs = Unit {0}

-- whether all outputs of a table can be
abbrev pub AreNarrow : Notation → List Output → Type 0
AreNarrow Decimal table = All (λ o. o.width ≤ most_width) table
AreNarrow Hexadecimal table = Unit {0}
