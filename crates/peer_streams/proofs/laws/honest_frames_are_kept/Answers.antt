use Rattle.peer_streams.proofs.Honest.{kept-honest}
use Rattle.peer_streams.proofs.laws.honest_frames_are_kept.Goals as goal

pub returns : goal.returns
returns c = kept-honest
