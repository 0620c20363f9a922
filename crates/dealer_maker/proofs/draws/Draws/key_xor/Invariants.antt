use Rattle.std.proofs.Common.{◌≡◌}
use Rattle.dealer_maker.specs.Draws.{key_xor}
use Rattle.dealer_maker.proofs.draws.Draws.key_xor.Given as goal

abbrev pub invariant-loop-at : goal.invariant-loop-at
invariant-loop-at l = l.xor ≡ key_xor l.self.seed l.from l.at
