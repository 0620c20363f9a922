use Rattle.peer_streams.proofs.Honest.{shows-first}
use Rattle.peer_streams.proofs.laws.honest_streams_show_nothing.Goals as goal

pub returns : goal.returns
returns c = λ expected sends slots bytes some rest shown stream are is shows. shows-first expected sends slots bytes stream are some rest shown is shows
