use Rattle.std.proofs.Common.{Some, refl, string_bytes}
use Rattle.std.specs.Fmt.{decimal}
use Rattle.hex.specs.Hex.{encode_lower}
use Rattle.motion_cli.specs.Report.{PartyRun, output_lines}
use Rattle.motion_cli.proofs.ReportLemmas.{narrow_cut, run_text}
use Rattle.motion_cli.proofs.report.push_run.Goals as goal

pub push_outputs-requires : goal.push_outputs-requires
push_outputs-requires c =
    narrow_cut c.args.notation (Some (record { 0 = c.args.party })) c.args.table.now _ c.in_ok-outputs.outputs c.requires.narrow c.in_ok-outputs.ensures

pub returns : goal.returns
returns c =
    let run : PartyRun = record { party = c.args.party; outputs = c.in_ok-outputs.outputs; digest = c.args.report.now.digest } in (
      run,
      record { party = refl; outputs = rw c.as_slice.ensures at c.in_ok-outputs.ensures; digest = refl },
      run_text (string_bytes c.args.text.now) _ _ _ (decimal run.party) (output_lines c.args.notation run.outputs) (encode_lower run.digest)
          c.in_ok-write.ensures.bytes c.in_ok-push_outputs.ensures c.in_ok-push_digest.ensures,
    )
