use Rattle.std.proofs.Common.{string_bytes}
use Rattle.motion_cli.proofs.ReportLemmas.{DigitsTo}
use Rattle.motion_cli.proofs.report.push_digits.Given as goal

abbrev pub invariant-loop-at : goal.invariant-loop-at
invariant-loop-at l = DigitsTo l.count l.bits (string_bytes l.initial.text) l.at (string_bytes l.text)
