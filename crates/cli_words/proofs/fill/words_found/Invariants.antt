use Rattle.std.proofs.Common.{◌≡◌, ◌++◌, drop, map, option_map, List}
use Rattle.clap.specs.Words.{found_of, first_value}
use Rattle.cli_words.specs.Table.{Meaning, row_words}
use Rattle.cli_words.specs.Filled.{meaning_in, words_found}
use Rattle.cli_words.proofs.fill.words_found.Given as goal

abbrev pub invariant-loop-id : goal.invariant-loop-id
invariant-loop-id l =
    words_found (first_value (found_of l.matches)) (row_words l.row)
    ≡ option_map (λ (more : List Meaning). map meaning_in l.values.items ++ more)
    (words_found (first_value (found_of l.matches)) (row_words (drop l.id-index l.row)))
