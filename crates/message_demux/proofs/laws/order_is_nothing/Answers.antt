use Rattle.message_demux.proofs.Runs.{order_nothing}
use Rattle.message_demux.proofs.laws.order_is_nothing.Goals as goal

pub returns : goal.returns
returns c = order_nothing
