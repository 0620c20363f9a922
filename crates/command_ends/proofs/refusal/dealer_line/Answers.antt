use Rattle.std.proofs.Common.{◌++◌, ◌∙◌, ap}
use Rattle.std.specs.Prelude.{codes}
use Rattle.std.specs.Fmt.{decimal}
use Rattle.text_lines.specs.Text.{Text}
use Rattle.command_ends.specs.Outcome.{line}
use Rattle.command_ends.specs.Refusal.{part_fault}
use Rattle.command_ends.proofs.RefusalLemmas.{part_text}
use Rattle.command_ends.proofs.refusal.dealer_line.Goals as goal

pub returns : goal.returns
returns c =
    let written = rw c.in_ok-fault.ensures at c.in_ok-text.ensures.ok in
    written ∙ ap (λ (t : Text). codes "dealer " ++ t) (part_text c.args.prefix.now (decimal c.args.party) (codes ": " ++ line (part_fault c.args.fault)))
