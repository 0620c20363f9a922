use Rattle.std.proofs.Common.{◌≡◌, ◌≤◌, List, length, refl, ap, sym, ◌∙◌, arith}
use Rattle.std.specs.Prelude.{string_bytes}
use Rattle.std.proofs.lemmas.Result.{IfOk-weaker}
use Rattle.mot_base.specs.Limits.{most_parties}
use Rattle.joint_run.specs.Party.{Own}
use Rattle.local_run.specs.Meaning.{owns_with}
use Rattle.local_run.specs.OneSeed.{owns_of}
use Rattle.any_circuit.specs.Circuits.{circuit_of, inputs_of, parties_of}
use Rattle.motion_cli.proofs.TakenLemmas.{plan_parties, job_served, reports_count, all_widths, run_reported}
use Rattle.motion_cli.proofs.local.run_and_report.Goals as goal

pub run_job-requires-clause-job : goal.run_job-requires-clause-job
run_job-requires-clause-job g c = λ κs within.
    job_served c.args.plan c.in_ok-job.job.plan c.args.words.now.seed.0 (inputs_of (circuit_of c.args.circuit.now)) c.in_ok-inputs.inputs
    c.args.values.now c.args.parts.now c.in_ok-job.job.owns.items c.in_ok-job.ensures.plan c.in_ok-inputs.ensures.value
    c.in_ok-job.ensures.owns c.parties-parties.ensures.plan c.requires.unkeyed c.requires.takes c.requires.widths c.requires.serve

pub report_runs-requires-clause-parties : goal.report_runs-requires-clause-parties
report_runs-requires-clause-parties g c =
    let count = reports_count c.in_ok-job.job.plan (owns_with c.in_ok-job.job.owns.items c.args.parts.now) c.in_ok-reports.reports.items c.in_ok-reports.ensures.joint in
    let plan = ap (λ p. p.parties) c.in_ok-job.ensures.plan in
    let few = c.parties-parties.ensures.plan.most_parties in
    rw c.as_slice.ensures.value (let all : length c.in_ok-reports.reports.items ≤ most_parties = omega (arith, count, plan, few) in all)

pub report_runs-requires-clause-widths : goal.report_runs-requires-clause-widths
report_runs-requires-clause-widths g c =
    let circuit = circuit_of c.args.circuit.now in
    let same = c.in_ok-job.ensures.plan ∙ c.requires.plan in
    let keeps = rw c.requires.plan at c.requires.keeps in
    rw (c.as_slice.ensures.value, c.in_ok-outputs.ensures.value)
    (all_widths circuit (owns_with c.in_ok-job.job.owns.items c.args.parts.now) c.in_ok-reports.reports.items c.requires.whole
    (rw c.requires.plan at c.parties-parties.ensures.plan) keeps
    (rw same at c.in_ok-reports.ensures.joint))

pub returns : goal.returns
returns g c =
    let circuit = circuit_of c.args.circuit.now in
    let parts = c.args.parts.now in
    let v = c.args.values.now in
    let seed = c.args.words.now.seed.0 in
    let owns : List Own = owns_with c.in_ok-job.job.owns.items parts in
    let same = c.in_ok-job.ensures.plan ∙ c.requires.plan in
    let parties = ap (λ p. p.parties) c.requires.plan ∙ plan_parties circuit in
    let owns_are : owns ≡ owns_with (owns_of seed (parties_of circuit) (inputs_of circuit) v) parts =
    rw (c.in_ok-job.ensures.owns, c.in_ok-inputs.ensures.value, parties) refl in
    rw (sym owns_are)
    (IfOk-weaker c.report_runs.result _ _
    (λ text told. run_reported circuit seed v parts owns c.in_ok-reports.reports.items told.0 (string_bytes text) owns_are c.requires.whole
    (rw c.requires.plan at c.requires.keeps) (rw c.requires.plan at c.parties-parties.ensures.plan)
    (rw c.requires.plan at c.requires.unkeyed)
    (rw c.requires.plan at c.requires.takes) c.requires.widths (rw c.requires.plan at c.requires.serve)
    (rw same at c.in_ok-reports.ensures.joint) (rw same at c.in_ok-reports.ensures.plain)
    (rw (c.as_slice.ensures.value, c.in_ok-outputs.ensures.value) at told.1) (rw c.notation.ensures at told.2))
    c.report_runs.ensures)
