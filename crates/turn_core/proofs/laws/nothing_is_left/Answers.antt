use Rattle.turn_core.proofs.Draining.{all_handed}
use Rattle.turn_core.proofs.laws.nothing_is_left.Goals as goal

pub returns : goal.returns
returns c = all_handed
