use Rattle.std.proofs.Common.{arith}
use Rattle.pool_workers.proofs.SlotSteps.{split_kept}
use Rattle.pool_workers.proofs.table.hire.Goals as goal

pub split_seat-requires : goal.split_seat-requires
split_seat-requires g c = (c.requires.table.0, omega arith, split_kept g.M.Meaning.items g.M.Meaning.edges g.M.Meaning.means c.args.worker.now.id c.args.worker.now.me.0 c.requires.more)
