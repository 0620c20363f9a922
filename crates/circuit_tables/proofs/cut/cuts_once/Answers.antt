use Rattle.circuit_tables.proofs.CutLemmas.{cuts_once}
use Rattle.circuit_tables.proofs.cut.cuts_once.Goals as goal

pub returns : goal.returns
returns c = cuts_once
