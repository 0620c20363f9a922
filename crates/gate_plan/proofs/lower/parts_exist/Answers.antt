use Rattle.gate_plan.proofs.LawfulLemmas.{parts_exist}
use Rattle.gate_plan.proofs.lower.parts_exist.Goals as goal

pub returns : goal.returns
returns c = parts_exist
