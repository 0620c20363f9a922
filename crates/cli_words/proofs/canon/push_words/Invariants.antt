use Rattle.std.proofs.Common.{◌≡◌, ◌++◌, take}
use Rattle.cli_words.specs.Grammar.{texts}
use Rattle.cli_words.specs.Pass.{referents}
use Rattle.cli_words.proofs.canon.push_words.Given as goal

abbrev pub invariant-loop-word : goal.invariant-loop-word
invariant-loop-word l = texts l.words.items ≡ texts l.fn.words.items ++ referents (take l.word-index l.more)
