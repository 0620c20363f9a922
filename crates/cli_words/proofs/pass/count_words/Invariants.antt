use Rattle.std.proofs.Common.{◌≡◌, ◌+◌, ◌≤◌, drop, length}
use Rattle.cli_words.specs.Grammar.{words_of}
use Rattle.cli_words.specs.Pass.{pieces_of}
use Rattle.cli_words.proofs.pass.count_words.Given as goal

abbrev pub invariant-loop-piece : goal.invariant-loop-piece
invariant-loop-piece l =
    (length (words_of (pieces_of l.pieces)) ≡ l.count + length (words_of (pieces_of (drop l.piece-index l.pieces))))
    × (l.count ≤ l.piece-index)
