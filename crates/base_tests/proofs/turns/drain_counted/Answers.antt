use Rattle.std.proofs.Common.{sym, subst}
use Rattle.turn_core.specs.Core.{Core, IsSettled}
use Rattle.turn_core.proofs.Events.{settled-start}
use Rattle.base_tests.proofs.turns.drain_counted.Goals as goal

pub drain-count-requires-clause-settled : goal.drain-count-requires-clause-settled
drain-count-requires-clause-settled g c =
    subst (λ (x : Core). IsSettled x) (sym c.in_ok-turns.ensures) (settled-start c.args.dag.now c.requires.inside)
