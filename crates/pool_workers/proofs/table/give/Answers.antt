use Rattle.std.proofs.Common.{Some, ap, ◌∙◌, arith}
use Rattle.atomic_table.specs.Table.{rest}
use Rattle.pool_workers.specs.Words.{with_edge}
use Rattle.pool_workers.proofs.SlotSteps.{allow_give}
use Rattle.pool_workers.proofs.table.give.Goals as goal

pub fetch_sub-requires : goal.fetch_sub-requires
fetch_sub-requires g c = (
  c.exchange.ensures.0 ∙ c.requires.table.0,
  omega (arith, c.requires.word),
  rw (c.exchange.ensures.3, c.requires.word) (allow_give g.M.Meaning.items g.M.Meaning.edges g.M.Meaning.means c.args.pool.now.shared.table_id.slots c.exchange.new.seat.id c.args.edge c.args.worker.now.me.0 c.args.value (rest c.args.worker.now.me.1) c.requires.may c.requires.means),
)

pub returns-clause-gave : goal.returns-clause-gave
returns-clause-gave g c =
    c.fetch_sub.ensures.2 c.args.edge (Some c.args.value) (rest c.args.worker.now.me.1) (ap (λ m. m.1) c.exchange.ensures.3)
    ∙ ap (λ m. (with_edge m.0 c.args.edge, rest c.args.worker.now.me.1)) c.exchange.ensures.3
