use Rattle.joint_run.proofs.Following.{a_party_follows}
use Rattle.joint_run.proofs.laws.a_party_follows.Goals as goal

pub returns : goal.returns
returns c = a_party_follows
