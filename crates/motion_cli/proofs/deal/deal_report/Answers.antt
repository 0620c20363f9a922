use Rattle.std.proofs.Common.{◌<◌, refl, ◌∙◌, ap, arith}
use Rattle.std.specs.Prelude.{codes}
use Rattle.mot_base.specs.Faults.{Rose}
use Rattle.mot_base.specs.Limits.{most_file_bytes}
use Rattle.share_types.specs.declared.needs.Needs.{Needs}
use Rattle.cli_words.specs.Request.{deal_request}
use Rattle.dealer_files.specs.File.{file_length}
use Rattle.text_lines.specs.Text.{Text}
use Rattle.command_ends.specs.Outcome.{file_refused, part_name}
use Rattle.motion_cli.specs.Parts.{part_length}
use Rattle.motion_cli.proofs.PartsLemmas.{came_too_long}
use Rattle.motion_cli.proofs.deal.deal_report.Goals as goal

pub returns-then-dealer_len-clause-came : goal.returns-then-dealer_len-clause-came
returns-then-dealer_len-clause-came g c =
    let old = c.args.files.now in
    let r = deal_request c.args.words.now in
    let length_is = c.dealer_len.ensures ∙ ap (λ (counts : Needs). file_length c.args.words.now.parties counts) c.counts_asked-counts.ensures in
    let over = c.if-dealer_len.true in
    let long : most_file_bytes < part_length r = omega (arith, length_is, over) in
    came_too_long (g.F.Files.holds old) (Rose (g.F.Files.faults old) (g.F.Files.faults old)) r (g.F.Files.holds old) (g.F.Files.holds old) _ refl
    long (ap (λ (prefix : Text). file_refused (part_name prefix 0) (codes "too long")) c.as_str.ensures.value)
