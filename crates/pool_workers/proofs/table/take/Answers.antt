use Rattle.std.proofs.Common.{arith}
use Rattle.pool_workers.proofs.SlotSteps.{allow_take}
use Rattle.pool_workers.proofs.table.take.Goals as goal

pub compare_exchange-requires : goal.compare_exchange-requires
compare_exchange-requires g c = (c.requires.table.0, omega arith, allow_take g.M.Meaning.items g.M.Meaning.edges g.M.Meaning.means c.args.pool.now.shared.table_id.slots c.args.worker.now.id c.args.item c.args.worker.now.me c.requires.dag c.requires.item c.requires.some_part)
