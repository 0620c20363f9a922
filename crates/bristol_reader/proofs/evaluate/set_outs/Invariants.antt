use Rattle.bristol_reader.specs.Stored.{a_gate}
use Rattle.bristol_reader.proofs.EvalLemmas.{SetTo}
use Rattle.bristol_reader.proofs.evaluate.set_outs.Given as goal

abbrev pub invariant-loop-i : goal.invariant-loop-i
invariant-loop-i l = SetTo l.initial.bits (a_gate l.kind l.ins l.outs) l.i l.bits
