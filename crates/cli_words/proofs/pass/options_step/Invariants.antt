use Rattle.std.proofs.Common.{◌≡◌, drop}
use Rattle.cli_words.specs.Pass.{options_step}
use Rattle.cli_words.proofs.pass.options_step.Given as goal

abbrev pub invariant-loop-option : goal.invariant-loop-option
invariant-loop-option l = options_step l.options l.word ≡ options_step (drop l.option-index l.options) l.word
