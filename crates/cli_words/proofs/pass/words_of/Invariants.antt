use Rattle.std.proofs.Common.{◌≡◌, ◌++◌, drop}
use Rattle.cli_words.specs.Grammar.{words_of}
use Rattle.cli_words.specs.Pass.{pieces_of, referents}
use Rattle.cli_words.proofs.pass.words_of.Given as goal

abbrev pub invariant-loop-piece : goal.invariant-loop-piece
invariant-loop-piece l =
    words_of (pieces_of l.pieces) ≡ referents l.words.items ++ words_of (pieces_of (drop l.piece-index l.pieces))
