-- What commands report.
use Rattle.std.specs.Prelude.{ℕ, zero, suc, Bool, false, List, [], ◌∷◌, ◌++◌, codes, length, take, drop, ◌+◌, ◌/◌}
use Rattle.std.specs.Fmt.{decimal, digits}
use Rattle.std.specs.List.{flat_map}
use Rattle.hex.specs.Hex.{encode_lower}
use Rattle.share_types.specs.Bits.{number}
use Rattle.share_types.specs.declared.needs.Needs.{Needs}
use Rattle.circuit_tables.specs.Table.{Told}
use Rattle.text_lines.specs.Text.{Text}
use Rattle.plan_gates.specs.Plan.{Gates}
use Rattle.plan_gates.specs.Needs.{all_needs}
use Rattle.command_ends.specs.Outcome.{line, line_end}
use Rattle.any_circuit.specs.declared.notation.Notation.{Notation}
use Rattle.any_circuit.specs.declared.notation.Notation.TheVariants.{Decimal, Hexadecimal}

-- bits as so many lower-case hexadecimal digits, each of four bits, the highest digit first
abbrev pub hexadecimal_digits : ℕ → List Bool → Text
hexadecimal_digits zero bits = []
hexadecimal_digits (suc more) bits =
    hexadecimal_digits more (drop 4 bits) ++ digits 16 false (number (take 4 bits))

-- how the bits of an output are written
abbrev pub written : Notation → List Bool → Text
written Decimal bits = decimal (number bits)
written Hexadecimal bits = codes "0x" ++ hexadecimal_digits ((length bits + 3) / 4) bits

-- the line of an output: its name and its value
abbrev pub output_line : Notation → Told → Text
output_line notation output = output.name ++ (codes " = " ++ line (written notation output.bits))

-- the lines of outputs, in their order
abbrev pub output_lines : Notation → List Told → Text
output_lines notation [] = []
output_lines notation (output ∷ more) = output_line notation output ++ output_lines notation more

-- what is reported of a party: its number, the outputs that it is told, and the digest of all that it sent
pub record PartyRun : Type 0 where
  pub party : ℕ
  pub outputs : List Told
  pub digest : List ℕ

abbrev pub run_report : Notation → PartyRun → Text
run_report notation run =
    codes "party " ++ (decimal run.party ++ (line_end
    ++ (output_lines notation run.outputs ++ (codes "digest " ++ line (encode_lower run.digest)))))

-- what is reported of all parties, one after another
abbrev pub runs_report : Notation → List PartyRun → Text
runs_report notation runs = flat_map (run_report notation) runs

-- a count with its name
abbrev pub count_line : Text → ℕ → Text
count_line name count = name ++ (codes " " ++ line (decimal count))

-- how many correlations of each kind are needed
abbrev pub needs_lines : Needs → Text
needs_lines needs =
    count_line (codes "mult") needs.mult
    ++ (count_line (codes "bit") needs.bit
    ++ (count_line (codes "shared") needs.shared ++ count_line (codes "key") needs.key))

-- what is reported of a plan: how many gates it has, and what they need
abbrev pub needs_report : Gates → Text
needs_report plan = count_line (codes "gates") (length plan.gates) ++ needs_lines (all_needs plan)
