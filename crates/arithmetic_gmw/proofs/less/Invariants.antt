use Rattle.std.proofs.Common.{◌≡◌, take}
use Rattle.share_types.specs.Sums.{word_difference, total}
use Rattle.arithmetic_gmw.proofs.less.Given as goal

abbrev pub invariant-loop-word : goal.invariant-loop-word
invariant-loop-word l = l.rest ≡ word_difference l.fn.x (total (take l.word-index l.words))
