use Rattle.std.proofs.Common.{◌≡◌}
use Rattle.arithmetic_gmw.specs.Sharing.{words_of}
use Rattle.arithmetic_gmw.proofs.words_for.Given as goal

abbrev pub invariant-loop-to : goal.invariant-loop-to
invariant-loop-to l = l.words.items ≡ words_of l.seed.0 l.session l.gate l.me.0 l.to
