use Rattle.joint_run.proofs.Uses.{uses_never_meet}
use Rattle.joint_run.proofs.laws.tape_uses_never_meet.Goals as goal

pub returns : goal.returns
returns c = uses_never_meet
