use Rattle.joint_run.proofs.Recombining.{every_wire_recombines}
use Rattle.joint_run.proofs.laws.every_wire_recombines.Goals as goal

pub returns : goal.returns
returns c = every_wire_recombines
