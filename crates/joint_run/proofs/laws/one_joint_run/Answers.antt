use Rattle.joint_run.proofs.Unique.{one_joint_run}
use Rattle.joint_run.proofs.laws.one_joint_run.Goals as goal

pub returns : goal.returns
returns c = one_joint_run
