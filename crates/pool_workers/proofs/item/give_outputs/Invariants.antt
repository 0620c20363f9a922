use Rattle.std.proofs.Common.{◌≡◌}
use Rattle.pool_workers.proofs.Items.{Gave}
use Rattle.pool_workers.proofs.item.give_outputs.Given as goal

abbrev pub invariant-loop-value : goal.invariant-loop-value
invariant-loop-value g l =
    (l.worker.table_id ≡ l.fn.worker.table_id) × (l.worker.id ≡ l.fn.worker.id)
    × (g.H.Hints.bound l.hints ≡ g.H.Hints.bound l.fn.hints)
    × Gave g.M.Meaning.edges g.M.Meaning.means l.item l.at l.fn.worker.me.0 l.worker.me l.value-iterator.rest.items
