use Rattle.peer_streams.proofs.Honest.{shows-honest}
use Rattle.peer_streams.proofs.laws.honest_frames_show_nothing.Goals as goal

pub returns : goal.returns
returns c = λ expected sends slots frames honest are. shows-honest expected sends slots are frames honest
