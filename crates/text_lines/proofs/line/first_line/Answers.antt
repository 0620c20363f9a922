use Rattle.std.proofs.Common.{◌∙◌, sym}
use Rattle.text_lines.specs.Text.{is_line_end}
use Rattle.text_lines.proofs.LineLemmas.{cut_at_first, uncut}
use Rattle.text_lines.proofs.line.first_line.Goals as goal

pub returns-in-Some : goal.returns-in-Some
returns-in-Some c = cut_at_first is_line_end c.args.text.now c.in-Some.end 0 (sym c.in-Some.is ∙ c.first_end.ensures.place)

pub returns-in-None : goal.returns-in-None
returns-in-None c = uncut is_line_end c.args.text.now (sym c.in-None.is ∙ c.first_end.ensures.place)
