use Rattle.std.proofs.Common.{◌≡◌, drop}
use Rattle.cli_words.specs.Filled.{chosen}
use Rattle.cli_words.proofs.fill.Filled.option.Given as goal

abbrev pub invariant-loop-chosen : goal.invariant-loop-chosen
invariant-loop-chosen l =
    chosen l.self.options.items l.option ≡ chosen (drop l.chosen-index l.self.options.items) l.option
