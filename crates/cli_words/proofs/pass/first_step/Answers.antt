use Rattle.std.proofs.Common.{sym, ◌∙◌, ap}
use Rattle.cli_words.specs.Pass.{options_step}
use Rattle.cli_words.proofs.CodeSteps.{other_word}
use Rattle.cli_words.proofs.pass.first_step.Goals as goal

pub returns : goal.returns
returns c =
    other_word c.args.word.now _ (sym c.is_plain.ensures ∙ c.if-is_plain.false) (sym c.eq.ensures ∙ c.if-eq.false)
    (c.options_step.ensures ∙ ap (λ os. options_step os c.args.word.now) c.all.ensures)
