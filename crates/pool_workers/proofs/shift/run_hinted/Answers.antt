use Rattle.std.proofs.Common.{◌∙◌}
use Rattle.pool_workers.proofs.Pools.{worked_more}
use Rattle.pool_workers.proofs.shift.run_hinted.Goals as goal

pub loop-turn-preserved : goal.loop-turn-preserved
loop-turn-preserved g c = (
  worked_more g.M.Meaning.edges c.args.pool.now.shared.table_id c.loop-turn.worker c.try_number.new.worker c.loop-turn.ran.items c.try_number.new.ran.items c.loop-turn.invariant.0 c.try_number.ensures.table.0 c.in_ok-try_number.ensures.idle c.in_ok-try_number.ensures.ran,
  c.in_ok-try_number.ensures.hints ∙ c.next.ensures.same ∙ c.loop-turn.invariant.1,
)
