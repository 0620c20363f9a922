use Rattle.plan_gates.proofs.NeedsLemmas.{records_never_meet}
use Rattle.plan_gates.proofs.laws.records_never_meet.Goals as goal

pub returns : goal.returns
returns c = records_never_meet
