-- What each party is told, as outputs of the circuit from which a plan was made.
use Rattle.std.specs.Prelude.{ℕ, ◌≡◌, Bool, List, length, map, filter, slice_index}
use Rattle.std.specs.List.{flat_map}
use Rattle.share_types.specs.declared.bits.Bits.{Bits}
use Rattle.share_types.specs.Bits.{bits}
use Rattle.circuit_tables.specs.Table.{Told}
use Rattle.plan_gates.specs.Gate.{width_at}
use Rattle.plan_gates.specs.Plan.{Gates}
use Rattle.share_types.specs.Wires.{includes}
use Rattle.plan_gates.specs.Plain.{Outside, GateTold, told_by}
use Rattle.gate_tasks.specs.Report.{told_to}
use Rattle.local_run.specs.Report.{plain_told}

-- the bits that the gates of a plan tell a party, where these are the numbers of all gates
abbrev pub bits_told_to : Gates → List ℕ → ℕ → List Bool
bits_told_to plan numbers p =
    flat_map (λ g. bits (width_at plan.gates g) (slice_index numbers g)) (told_to plan p)

-- what of all that the output gates tell is told to one party, joined in order
abbrev pub bits_of_entries : List GateTold → ℕ → List Bool
bits_of_entries entries p = flat_map (λ t. t.bits) (filter (λ t. includes t.to p) entries)

-- both are the same
abbrev pub ToldBitsAreThoseOfOutputs : Type 0
ToldBitsAreThoseOfOutputs =
    (plan : Gates) (numbers : List ℕ) (p : ℕ) → length numbers ≡ length plan.gates →
    bits_told_to plan numbers p ≡ bits_of_entries (told_by plan.gates numbers) p

-- the outputs that a party is told, of all outputs of a circuit
abbrev pub outputs_to : ℕ → List Told → List Told
outputs_to p outputs = filter (λ output. includes output.to p) outputs

-- a party's told vectors have the numbers that the plan computes in plain for it, each in its gate's width
pub record AreToldInPlain (plan : Gates) (outside : Outside) (p : ℕ) (told : List Bits) : Type 0 where
  pub words : map (λ b. b.word) told ≡ plain_told plan outside p
  pub widths : map (λ b. b.width) told ≡ map (width_at plan.gates) (told_to plan p)
