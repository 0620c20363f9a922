use Rattle.std.proofs.Common.{arith}
use Rattle.pool_workers.proofs.SlotSteps.{join_kept}
use Rattle.pool_workers.proofs.table.take_in.Goals as goal

pub join_seat-requires : goal.join_seat-requires
join_seat-requires g c = (c.requires.table.0, c.requires.table.2, c.requires.free, omega arith, join_kept g.M.Meaning.items g.M.Meaning.edges g.M.Meaning.means c.args.worker.now.id c.args.worker.now.me.0 c.args.other.id c.args.other.me.0 c.requires.some_part)
