use Rattle.std.proofs.Common.{take, string_bytes}
use Rattle.motion_cli.proofs.ReportLemmas.{ReportedTo}
use Rattle.motion_cli.proofs.report.report_runs.Given as goal

abbrev pub invariant-loop-at : goal.invariant-loop-at
invariant-loop-at l = ReportedTo l.notation l.table (take l.at l.reports) (string_bytes l.text)
