use Rattle.std.proofs.Common.{sym, subst}
use Rattle.turn_core.specs.Core.{Core, IsSettled}
use Rattle.turn_core.proofs.Events.{settled-start}
use Rattle.library_bench.proofs.turns.drain.Goals as goal

pub drain-requires-clause-settled : goal.drain-requires-clause-settled
drain-requires-clause-settled g c =
    subst (λ (x : Core). IsSettled x) (sym c.in_ok-turns.ensures) (settled-start c.args.dag.now c.requires.inside)
