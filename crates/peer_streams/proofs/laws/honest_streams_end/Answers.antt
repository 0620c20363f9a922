use Rattle.peer_streams.proofs.Honest.{ends}
use Rattle.peer_streams.proofs.laws.honest_streams_end.Goals as goal

pub returns : goal.returns
returns c = λ expected sends slots bytes stream are. ends expected sends slots bytes stream are
