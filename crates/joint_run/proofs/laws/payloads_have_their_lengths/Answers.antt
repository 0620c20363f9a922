use Rattle.joint_run.proofs.Lengths.{payloads_have_their_lengths}
use Rattle.joint_run.proofs.laws.payloads_have_their_lengths.Goals as goal

pub returns : goal.returns
returns c = payloads_have_their_lengths
