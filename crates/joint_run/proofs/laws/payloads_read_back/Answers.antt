use Rattle.joint_run.proofs.Bytes.{payloads_read_back}
use Rattle.joint_run.proofs.laws.payloads_read_back.Goals as goal

pub returns : goal.returns
returns c = payloads_read_back
