use Rattle.std.proofs.Common.{take}
use Rattle.clap.specs.Words.{found_of, first_value}
use Rattle.cli_words.specs.Filled.{chosen, AreFound}
use Rattle.cli_words.proofs.fill.options_found.Given as goal

abbrev pub invariant-loop-option : goal.invariant-loop-option
invariant-loop-option l =
    AreFound (first_value (found_of l.matches)) (take l.option-index l.row) (chosen l.options.items)
