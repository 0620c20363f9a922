use Rattle.joint_run.proofs.Narrow.{payloads_have_their_shapes}
use Rattle.joint_run.proofs.laws.payloads_have_their_shapes.Goals as goal

pub returns : goal.returns
returns c = payloads_have_their_shapes
