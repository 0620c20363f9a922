use Rattle.std.proofs.Common.{◌++◌, ◌∙◌, ap}
use Rattle.std.specs.Prelude.{codes}
use Rattle.std.specs.Fmt.{decimal}
use Rattle.text_lines.specs.Text.{Text}
use Rattle.command_ends.specs.Outcome.{line}
use Rattle.motion_cli.proofs.PartsLemmas.{hexadecimal_text}
use Rattle.motion_cli.proofs.deal.dealt_line.Goals as goal

pub returns : goal.returns
returns c =
    let written = rw (c.in_radix.ensures, c.laid_out.ensures) at c.in_ok-format.ensures.ok in
    written
    ∙ ap (λ (t : Text). codes "dealt " ++ (decimal c.args.parties ++ (codes " parts, id " ++ line t))) (hexadecimal_text c.args.id)
