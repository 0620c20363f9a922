-- What a run of all parties comes to.
use Rattle.std.specs.Prelude.{ℕ, ◌≡◌, Bool, List, length, slice_get, Option, Some, None}
use Rattle.share_types.specs.declared.needs.Needs.{Needs}
use Rattle.cli_words.specs.Request.{LocalRequest}
use Rattle.circuit_tables.specs.Table.{Output, Told, asked, joined_bits, AreCut}
use Rattle.dealer_files.specs.Part.{Part}
use Rattle.dealer_files.specs.Honest.{HonestTogether}
use Rattle.joint_run.specs.Party.{Own}
use Rattle.joint_run.specs.Joint.{Payloads, IsJoint}
use Rattle.gate_tasks.specs.declared.report.PartyReport.{PartyReport}
use Rattle.local_run.specs.OneSeed.{owns_of}
use Rattle.local_run.specs.Meaning.{owns_with}
use Rattle.local_run.specs.Report.{AreReports}
use Rattle.text_lines.specs.Text.{Text}
use Rattle.any_circuit.specs.Circuits.{Circuit, inputs_of, outputs_of, parties_of, plan_of, IsPlain, told_to}
use Rattle.motion_cli.specs.Report.{PartyRun}

-- what a party was told is cut into those outputs of a circuit that it is to be told
pub record IsRunOf (table : List Output) (p : ℕ) (report : PartyReport) (run : PartyRun) : Type 0 where
  pub party : run.party ≡ p
  pub outputs : AreCut (asked (Some (record { 0 = p })) table) (joined_bits report.told) run.outputs
  pub digest : run.digest ≡ report.digest

pub record AreRunsOf (table : List Output) (reports : List PartyReport) (runs : List PartyRun) : Type 0 where
  pub count : length runs ≡ length reports
  pub each : (p : ℕ) (report : PartyReport) (run : PartyRun) → slice_get reports p ≡ Some report →
      slice_get runs p ≡ Some run → IsRunOf table p report run

-- this is what all parties come to in the joint run of a circuit's plan, whose own data these are
pub record AreRuns (c : Circuit) (owns : List Own) (runs : List PartyRun) : Type 0 where
  pub table : Payloads
  pub joint : IsJoint (plan_of c) owns table
  pub reports : List PartyReport
  pub reported : AreReports (plan_of c) owns table reports
  pub told : AreRunsOf (outputs_of c) reports runs

-- each party is told its outputs of the plain evaluation
abbrev pub TellPlainly : Circuit → List (List Bool) → List PartyRun → Type 0
TellPlainly c v runs =
    (outputs : List Told) × IsPlain c v outputs
    × ((p : ℕ) (run : PartyRun) → slice_get runs p ≡ Some run → run.outputs ≡ told_to p outputs)

-- the own data of all parties under the seed of the run, with the parts of a deal
abbrev pub owns_in : LocalRequest → Circuit → List (List Bool) → List Part → List Own
owns_in request c v parts = owns_with (owns_of request.seed (parties_of c) (inputs_of c) v) parts

-- the parts that a run takes are honest together
abbrev pub AreHonestParts : List Part → Type 0
AreHonestParts parts = (id : ℕ) × (counts : Needs) × HonestTogether parts (length parts) id counts

-- parts can be relied on where they were dealt for the run, or where those that were loaded are honest together
abbrev pub AreSound : Option Text → List Part → Type 0
AreSound None parts = Unit {0}
AreSound (Some prefix) parts = AreHonestParts parts
