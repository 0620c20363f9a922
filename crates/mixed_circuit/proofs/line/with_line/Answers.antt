use Rattle.mixed_circuit.proofs.SaysLemmas.{said_room}
use Rattle.mixed_circuit.proofs.StatementLemmas.{said_statement}
use Rattle.mixed_circuit.proofs.line.with_line.Goals as goal

pub with_statement-requires-clause-few : goal.with_statement-requires-clause-few
with_statement-requires-clause-few c = said_room c.args.builder _ _ c.in_ok-said.ensures

pub with_statement-requires-clause-statement : goal.with_statement-requires-clause-statement
with_statement-requires-clause-statement c = said_statement c.args.builder _ _ c.in_ok-said.ensures
