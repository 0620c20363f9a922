use Rattle.message_demux.proofs.Runs.{keeps_messages}
use Rattle.message_demux.proofs.laws.keeps_the_messages.Goals as goal

pub returns : goal.returns
returns c = keeps_messages
