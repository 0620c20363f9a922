use Rattle.joint_run.proofs.Recombining.{every_gate_recombines}
use Rattle.joint_run.proofs.laws.every_gate_recombines.Goals as goal

pub returns : goal.returns
returns c = every_gate_recombines
