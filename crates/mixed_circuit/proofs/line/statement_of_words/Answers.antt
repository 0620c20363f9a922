use Rattle.mixed_circuit.proofs.PartsLemmas.{parts_of-stated}
use Rattle.mixed_circuit.proofs.line.statement_of_words.Goals as goal

pub statement_of_raw-requires : goal.statement_of_raw-requires
statement_of_raw-requires c = (parts_of-stated _ _ c.in_ok-raw.ensures).whole
