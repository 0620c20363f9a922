use Rattle.std.proofs.Common.{◌≡◌, ◌++◌, take, string_bytes}
use Rattle.motion_cli.specs.Report.{output_lines}
use Rattle.motion_cli.proofs.report.push_outputs.Given as goal

abbrev pub invariant-loop-at : goal.invariant-loop-at
invariant-loop-at l = string_bytes l.text ≡ string_bytes l.initial.text ++ output_lines l.notation (take l.at l.outputs)
