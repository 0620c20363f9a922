use Rattle.std.proofs.Common.{length, ap, arith}
use Rattle.turn_core.proofs.Fresh.{incoming-short}
use Rattle.turn_core.proofs.turns.missing_at_start.Goals as goal

pub overflow_cast-incoming : goal.overflow_cast-incoming
overflow_cast-incoming c = omega (arith, ap length c.incoming.ensures, incoming-short c.args.dag.now c.loop-item.item, c.items-items.ensures.sound.edges_fit)
