-- What is reported of what a party has run.
use Rattle.std.specs.Prelude.{ℕ, zero, suc, ◌==◌, List, [], ◌∷◌, ◌++◌, map, filter, slice_get, Option, Some, if◌then◌else◌}
use Rattle.std.specs.List.{flat_map}
use Rattle.share_types.specs.declared.bits.Bits.{Bits}
use Rattle.share_types.specs.Sums.{each}
use Rattle.frames.specs.Bytes.{IsPayload}
use Rattle.frames.specs.declared.frame.Frame.{Frame}
use Rattle.plan_gates.specs.Plan.{Gates}
use Rattle.plan_gates.specs.Messages.{rounds}
use Rattle.gate_tasks.specs.declared.outgoing.Out.{Out}
use Rattle.gate_tasks.specs.declared.value.Value.{Value as ValueInMemory}
use Rattle.gate_tasks.specs.declared.value.Value.TheVariants as code
use Rattle.gate_tasks.specs.Report.{tells_at}
use Rattle.gate_tasks.specs.Wires.{value_held}
use Rattle.party_stages.specs.Following.{said_at}
use Rattle.party_engine.specs.Saying.{frame_of}

-- the vector that a value tells, if it tells one
abbrev pub bits_told : Option ValueInMemory → List Bits
bits_told (Some (code.Told (Some bits))) = bits ∷ []
bits_told _ = []

abbrev pub bits_held : List (Option ValueInMemory) → ℕ → List Bits
bits_held wires g = bits_told (value_held wires g)

-- and where the gate at a place tells a party its value
abbrev pub told_of : Gates → ℕ → List (Option ValueInMemory) → ℕ → List Bits
told_of plan p wires g = if tells_at (slice_get plan.gates g) p then bits_held wires g else []

-- a frame may carry a message
abbrev pub CanFrame : Out → Type 0
CanFrame out = IsPayload out.payload

-- those of some messages that are of a round
abbrev pub in_round : ℕ → List Out → List Out
in_round round outs = filter (λ out. out.round == round) outs

-- the frames of those of some messages that are of a round, those of the first n rounds, one round after another, and those
-- of what was said at the first n gates
abbrev pub frames_in : ℕ → List Out → List Frame
frames_in round outs = map frame_of (in_round round outs)

abbrev pub frames_at : ℕ → List Out → List Frame
frames_at n outs = flat_map (λ round. frames_in round outs) (each n (λ round. round))

abbrev pub frames_said : Gates → List (List Out) → ℕ → List Frame
frames_said plan said zero = []
frames_said plan said (suc g) = frames_said plan said g ++ frames_at (rounds plan g) (said_at said g)
