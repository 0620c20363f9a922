use Rattle.std.proofs.Common.{◌≡◌, drop}
use Rattle.cli_words.specs.Grammar.{given}
use Rattle.cli_words.specs.Pass.{pieces_of}
use Rattle.cli_words.proofs.pass.value_given.Given as goal

abbrev pub invariant-loop-piece : goal.invariant-loop-piece
invariant-loop-piece l =
    given l.option (pieces_of l.pieces) ≡ given l.option (pieces_of (drop l.piece-index l.pieces))
