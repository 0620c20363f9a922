use Rattle.peer_streams.proofs.Answered.{answered}
use Rattle.peer_streams.proofs.laws.answers_are_shown.Goals as goal

pub returns : goal.returns
returns c = λ before told closed place hellos slots answer shown is q expected taken peer there are shows.
    answered before told closed place hellos slots answer shown is q expected taken peer there are shows
