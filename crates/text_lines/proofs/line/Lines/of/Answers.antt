use Rattle.std.proofs.Common.{◌≤◌, ◌+◌, length, sym, subst}
use Rattle.std.specs.List.{slice_split}
use Rattle.text_lines.specs.Text.{Text, is_line_end}
use Rattle.text_lines.proofs.LineLemmas.{few_lines}
use Rattle.text_lines.proofs.line.Lines.of.Goals as goal

pub returns-clause-few : goal.returns-clause-few
returns-clause-few c = subst (λ (text : Text). length (slice_split is_line_end text) ≤ length c.args.text.now + 1) (sym c.without_last_end_of.ensures) (few_lines c.args.text.now)
