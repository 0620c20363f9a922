use Rattle.std.proofs.Common.{◌<◌, length, string_bytes, arith}
use Rattle.motion_cli.proofs.ReportLemmas.{lines_next}
use Rattle.motion_cli.proofs.report.push_outputs.Goals as goal

pub loop-at-preserved : goal.loop-at-preserved
loop-at-preserved c =
    let within : c.loop-at.at < length c.args.outputs.now = omega arith in
    lines_next c.args.notation c.args.outputs.now c.loop-at.at (string_bytes c.args.text.now) _ _ within c.loop-at.invariant c.in_ok-push_output.ensures
