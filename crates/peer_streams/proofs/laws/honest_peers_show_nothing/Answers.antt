use Rattle.peer_streams.proofs.Heard.{honest}
use Rattle.peer_streams.proofs.laws.honest_peers_show_nothing.Goals as goal

pub returns : goal.returns
returns c = λ before told closed place hellos sends slots answer streams is. honest before told closed place hellos sends slots answer streams is
