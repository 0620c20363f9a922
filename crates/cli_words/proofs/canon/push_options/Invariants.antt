use Rattle.std.proofs.Common.{◌≡◌, ◌++◌, drop}
use Rattle.cli_words.specs.Canon.{option_words}
use Rattle.cli_words.specs.Grammar.{texts}
use Rattle.cli_words.specs.Pass.{pieces_of}
use Rattle.cli_words.proofs.canon.push_options.Given as goal

abbrev pub invariant-loop-option : goal.invariant-loop-option
invariant-loop-option l =
    texts l.words.items ++ option_words (drop l.option-index l.options) (pieces_of l.pieces)
    ≡ texts l.fn.words.items ++ option_words l.options (pieces_of l.pieces)
