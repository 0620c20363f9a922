use Rattle.std.proofs.Common.{arith}
use Rattle.circuit_tables.proofs.CutLemmas.{none_summed, one_more_summed, all_summed}
use Rattle.circuit_tables.proofs.cut.asked_width.Goals as goal

pub loop-at-init : goal.loop-at-init
loop-at-init c = none_summed c.args.party c.args.table.now

pub loop-at-preserved : goal.loop-at-preserved
loop-at-preserved c = one_more_summed c.args.party c.args.table.now c.loop-at.sum c.width_asked-sum.result c.loop-at.at c.loop-at.invariant (omega arith) c.width_asked-sum.ensures.value c.width_asked-sum.ensures.most

pub returns : goal.returns
returns c = all_summed c.args.party c.args.table.now c.loop-at.sum c.loop-at.at c.loop-at.invariant (omega arith)
