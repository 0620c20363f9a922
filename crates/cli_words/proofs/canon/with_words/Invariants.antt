use Rattle.std.proofs.Common.{◌≡◌, drop}
use Rattle.clap.specs.Words.{app_of}
use Rattle.cli_words.specs.Table.{called, row_words}
use Rattle.cli_words.specs.Canon.{with_words}
use Rattle.cli_words.proofs.canon.with_words.Given as goal

abbrev pub invariant-loop-word : goal.invariant-loop-word
invariant-loop-word l =
    with_words (app_of l.command) (called (row_words (drop l.word-index l.words)))
    ≡ with_words (app_of l.fn.command) (called (row_words l.words))
