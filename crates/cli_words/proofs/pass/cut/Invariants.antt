use Rattle.std.proofs.Common.{drop}
use Rattle.cli_words.specs.Grammar.{texts}
use Rattle.cli_words.specs.Pass.{cut, pieces_of}
use Rattle.cli_words.specs.declared.pass.State.TheVariants.{Between}
use Rattle.cli_words.proofs.CodeSteps.{IsCutTo}
use Rattle.cli_words.proofs.pass.cut.Given as goal

abbrev pub invariant-loop-word : goal.invariant-loop-word
invariant-loop-word l =
    IsCutTo (cut Between (texts l.words)) (pieces_of l.pieces.items) l.state (texts (drop l.word-index l.words))
