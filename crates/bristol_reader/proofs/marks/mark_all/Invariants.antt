use Rattle.bristol_reader.proofs.MarkLemmas.{MarkedTo}
use Rattle.bristol_reader.proofs.marks.mark_all.Given as goal

abbrev pub invariant-loop-wire : goal.invariant-loop-wire
invariant-loop-wire l = MarkedTo l.initial.set l.wires l.wire-index l.set
