use Rattle.bmr_garble.proofs.Joining.{shares-join}
use Rattle.bmr_garble.proofs.laws.shares_join.Goals as goal

pub returns : goal.returns
returns c = shares-join
