use Rattle.std.proofs.Common.{◌∙◌, arith}
use Rattle.atomic_table.specs.Table.{rest}
use Rattle.pool_workers.proofs.SlotSteps.{allow_return}
use Rattle.pool_workers.proofs.table.take_input.Goals as goal

pub load-requires : goal.load-requires
load-requires g c = (
  c.exchange-value.ensures.0 ∙ c.requires.table.0,
  omega arith,
  rw c.exchange-value.ensures.3 (allow_return g.M.Meaning.items g.M.Meaning.edges g.M.Meaning.means c.args.pool.now.shared.table_id.slots c.exchange-value.new.seat.id c.args.edge c.args.item c.args.worker.now.me.0 (rest c.args.worker.now.me.1) c.requires.edge.0 c.requires.edge.1 c.requires.took),
)
