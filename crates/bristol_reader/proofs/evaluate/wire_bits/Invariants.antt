use Rattle.bristol_reader.proofs.EvalLemmas.{EvaluatedTo}
use Rattle.bristol_reader.proofs.evaluate.wire_bits.Given as goal

abbrev pub invariant-loop-at : goal.invariant-loop-at
invariant-loop-at l = EvaluatedTo l.circuit l.values l.bits.items l.at
