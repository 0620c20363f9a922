-- What a party reports of a run: the values that it is told, and the digest of all that it sends.
use Rattle.std.specs.Prelude.{ℕ, zero, suc, ◌≡◌, Bool, false, List, [], ◌++◌, length, map, filter, slice_get, Option, Some, None}
use Rattle.std.specs.List.{flat_map}
use Rattle.sha2.specs.Sha256.{sha256}
use Rattle.share_types.specs.Sums.{each}
use Rattle.frames.specs.declared.frame.Frame.{Frame}
use Rattle.frames.specs.declared.frame.Frame.TheVariants as frame
use Rattle.frames.specs.Bytes.{joined}
use Rattle.plan_gates.specs.Gate.{Gate, width_at}
use Rattle.plan_gates.specs.Plan.{Gates}
use Rattle.plan_gates.specs.Messages.{rounds, tells}
use Rattle.joint_run.specs.Party.{Value, Told, Payload}
use Rattle.gate_tasks.specs.Stage.{receivers}
use Rattle.gate_tasks.specs.declared.report.PartyReport.{PartyReport}

-- ---- what a party is told

-- whether the gate at a place tells a party its value
abbrev pub tells_at : Option Gate → ℕ → Bool
tells_at None p = false
tells_at (Some gate) p = tells p gate

-- which of the first n gates tell a party their values, and which of all
abbrev pub told_gates : Gates → ℕ → ℕ → List ℕ
told_gates plan p n = filter (λ g. tells_at (slice_get plan.gates g) p) (each n (λ g. g))

abbrev pub told_to : Gates → ℕ → List ℕ
told_to plan p = told_gates plan p (length plan.gates)

-- ---- what a party sends

-- the payloads that a party sends, by gate, round and receiver
abbrev pub Sent : Type 0
Sent = ℕ → ℕ → ℕ → Payload

-- the frames of what a party sends in a round of a gate, by receiver
abbrev pub round_frames : Gates → ℕ → Sent → ℕ → ℕ → List Frame
round_frames plan p sent g round = map (λ to. frame.Message g round (sent g round to)) (receivers plan p g round)

-- at a gate, by round, and at the first n gates
abbrev pub gate_frames : Gates → ℕ → Sent → ℕ → List Frame
gate_frames plan p sent g = flat_map (round_frames plan p sent g) (each (rounds plan g) (λ round. round))

abbrev pub frames_before : Gates → ℕ → Sent → ℕ → List Frame
frames_before plan p sent zero = []
frames_before plan p sent (suc g) = frames_before plan p sent g ++ gate_frames plan p sent g

-- the transcript of a party: the frames of all its messages, sorted by gate, then by round and then by receiver
abbrev pub transcript : Gates → ℕ → Sent → List Frame
transcript plan p sent = frames_before plan p sent (length plan.gates)

-- ---- its report

-- the report of a party that has these values and sends these payloads: what it is told, in the order of the gates, each in
-- its gate's width, and the digest of its transcript
pub record IsReportOf (plan : Gates) (p : ℕ) (values : ℕ → Value) (sent : Sent) (report : PartyReport) : Type 0 where
  pub told : map (λ bits. Told (Some bits.word)) report.told ≡ map values (told_to plan p)
  pub widths : map (λ bits. bits.width) report.told ≡ map (width_at plan.gates) (told_to plan p)
  pub digest : report.digest ≡ sha256 (joined (transcript plan p sent))
