use Rattle.std.proofs.Common.{rules}
use Rattle.mot_base.proofs.Writing.{written_more}
use Rattle.mot_base.proofs.sink.write_all.Goals as goal

pub loop-written-preserved : goal.loop-written-preserved
loop-written-preserved g c = (
  written_more _ _ _ _ _ _ c.loop-written.invariant.0 c.in-Ok.ensures.within c.in-Ok.ensures.content,
  search rules,
  search rules,
)
