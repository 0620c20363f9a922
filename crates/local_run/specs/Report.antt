-- Reports of the parties of a run.
use Rattle.std.specs.Prelude.{ℕ, ◌≡◌, List, [], ◌∷◌, ◌++◌, length, map, slice_get, slice_index, Some}
use Rattle.share_types.specs.declared.bits.Bits.{Bits}
use Rattle.frames.specs.declared.frame.Frame.{Frame}
use Rattle.frames.specs.declared.frame.Frame.TheVariants as frame
use Rattle.plan_gates.specs.Plan.{Gates}
use Rattle.plan_gates.specs.Plain.{Outside, plain_before}
use Rattle.joint_run.specs.Party.{Own, party_value}
use Rattle.joint_run.specs.Joint.{Payloads, column}
use Rattle.joint_run.specs.Honest.{own_at}
use Rattle.gate_tasks.specs.declared.report.PartyReport.{PartyReport}
use Rattle.gate_tasks.specs.declared.value.Value.TheVariants as value
use Rattle.gate_tasks.specs.Report.{Sent, told_to, IsReportOf}
use Rattle.local_run.specs.declared.item.Load.{Load}
use Rattle.local_run.specs.declared.item.Load.TheVariants as load
use Rattle.local_run.specs.declared.cargo.Cargo.{Cargo}
use Rattle.local_run.specs.declared.cargo.Cargo.TheVariants as cargo

-- what a party sends in a joint run
abbrev pub sent_of : Payloads → ℕ → Sent
sent_of table p g round to = table g round p to

-- the report of a party of a joint run
abbrev pub IsReport : Gates → List Own → Payloads → ℕ → PartyReport → Type 0
IsReport plan owns table p report =
    IsReportOf plan p (party_value plan p (own_at owns p) (column table p)) (sent_of table p) report

-- the reports of all parties, in their order
pub record AreReports
    (plan : Gates) (owns : List Own) (table : Payloads) (reports : List PartyReport) : Type 0 where
  pub count : length reports ≡ plan.parties
  pub each : (p : ℕ) (report : PartyReport) →
      slice_get reports p ≡ Some report → IsReport plan owns table p report

-- the numbers that a party is told by the plain evaluation
abbrev pub plain_told : Gates → Outside → ℕ → List ℕ
plain_told plan outside p =
    map (slice_index (plain_before plan.gates outside (length plan.gates))) (told_to plan p)

-- ---- of what came to the end

-- the vector that is told, if one is
abbrev pub bits_told : Cargo → List Bits
bits_told (cargo.Value (value.Told (Some bits))) = bits ∷ []
bits_told _ = []

-- the frame of a payload
abbrev pub frame_of : Load → Cargo → List Frame
frame_of (load.Message g round from to) (cargo.Message payload) = frame.Message g round payload ∷ []
frame_of _ _ = []

abbrev pub frames_of : List Load → List Cargo → List Frame
frames_of [] cs = []
frames_of (l ∷ ls) [] = []
frames_of (l ∷ ls) (c ∷ cs) = frame_of l c ++ frames_of ls cs
