use Rattle.mixed_language.proofs.TableLemmas.{ToldTo}
use Rattle.mixed_language.proofs.circuit.Mixed.tell.Given as goal

abbrev pub invariant-loop-at : goal.invariant-loop-at
invariant-loop-at l = ToldTo l.values l.self.statements l.outputs l.at
