use Rattle.joint_run.proofs.Recombining.{shares_are_lawful}
use Rattle.joint_run.proofs.laws.shares_are_lawful.Goals as goal

pub returns : goal.returns
returns c = shares_are_lawful
