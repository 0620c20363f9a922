use Rattle.bristol_reader.proofs.UsedLemmas.{used_facts}
use Rattle.bristol_reader.proofs.line.with_numbers.Goals as goal

pub with_gate-requires-clause-arity : goal.with_gate-requires-clause-arity
with_gate-requires-clause-arity c = (used_facts _ _ _ _ c.in_ok-gate.ensures).arity

pub with_gate-requires-clause-range : goal.with_gate-requires-clause-range
with_gate-requires-clause-range c = (used_facts _ _ _ _ c.in_ok-gate.ensures).range

pub with_gate-requires-clause-used : goal.with_gate-requires-clause-used
with_gate-requires-clause-used c = (used_facts _ _ _ _ c.in_ok-gate.ensures).used
