use Rattle.std.proofs.Common.{arith}
use Rattle.motion_cli.proofs.ReportLemmas.{reported_next}
use Rattle.motion_cli.proofs.report.report_runs.Goals as goal
use Rattle.mot_base.proofs.Lists.{read_at as item_there}

pub loop-at-preserved : goal.loop-at-preserved
loop-at-preserved c =
    reported_next c.args.notation c.args.table.now c.args.reports.now c.loop-at.at c.index-reports-at.result _ _
    (item_there c.args.reports.now c.loop-at.at c.index-reports-at.result (omega arith) c.index-reports-at.is)
    c.loop-at.invariant c.in_ok-push_run.ensures
