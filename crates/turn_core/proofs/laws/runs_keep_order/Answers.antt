use Rattle.turn_core.proofs.Order.{keeps_order}
use Rattle.turn_core.proofs.laws.runs_keep_order.Goals as goal

pub returns : goal.returns
returns c = keeps_order
