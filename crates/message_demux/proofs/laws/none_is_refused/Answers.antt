use Rattle.message_demux.proofs.Runs.{none_refused}
use Rattle.message_demux.proofs.laws.none_is_refused.Goals as goal

pub returns : goal.returns
returns c = none_refused
