use Rattle.std.proofs.Common.{◌≡◌}
use Rattle.dealer_maker.specs.Draws.{word_xor}
use Rattle.dealer_maker.proofs.draws.Draws.xor.Given as goal

abbrev pub invariant-loop-at : goal.invariant-loop-at
invariant-loop-at l = l.xor ≡ word_xor l.self.seed l.from l.at
