use Rattle.std.proofs.Common.{◌≡◌, ℕ, List, length, drop, Some}
use Rattle.std.specs.Prelude.{slice_get}
use Rattle.joint_run.specs.Party.{Own}
use Rattle.joint_run.specs.Joint.{Payloads, IsJoint}
use Rattle.gate_tasks.specs.declared.report.PartyReport.{PartyReport}
use Rattle.local_run.specs.Loads.{reports_loads}
use Rattle.local_run.specs.Meaning.{AreMeant}
use Rattle.local_run.specs.Report.{IsReport}
use Rattle.local_run.proofs.report.reports.Given as goal

abbrev pub invariant-loop-party : goal.invariant-loop-party
invariant-loop-party l =
    (l.rest ≡ drop (length (reports_loads l.plan l.party)) l.ends)
    × (length l.reports.items ≡ l.party)
    × ((owns : List Own) (table : Payloads) → IsJoint l.plan owns table → AreMeant l.plan owns (reports_loads l.plan l.plan.parties) l.ends →
    (p : ℕ) (report : PartyReport) → slice_get l.reports.items p ≡ Some report → IsReport l.plan owns table p report)
