use Rattle.std.proofs.Common.{◌≡◌, take}
use Rattle.task_pool.specs.Meanings.{AreMeanings}
use Rattle.pool_workers.specs.Sums.{incoming_of}
use Rattle.pool_workers.specs.Steps.{Holding}
use Rattle.pool_workers.proofs.item.read_inputs.Given as goal

abbrev pub invariant-loop-edge : goal.invariant-loop-edge
invariant-loop-edge g l =
    (l.worker.table_id ≡ l.fn.worker.table_id) × (l.worker.id ≡ l.fn.worker.id)
    × (l.worker.me.0 ≡ l.fn.worker.me.0)
    × Holding g.M.Meaning.edges g.M.Meaning.means l.item l.edge-index l.worker.me.1
    × AreMeanings g.M.Meaning.means (take l.edge-index (incoming_of l.item g.M.Meaning.edges)) l.inputs.items
