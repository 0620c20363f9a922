use Rattle.mixed_language.proofs.CircuitLemmas.{IsCircuit-pushed}
use Rattle.mixed_language.proofs.circuit.Mixed.push.Goals as goal

pub invariant_of-self-2 : goal.invariant_of-self-2
invariant_of-self-2 c = IsCircuit-pushed _ _ _ c.args.statement _ c.self.view_is c.self.invariant c.requires.few c.requires.statement c.in_ok-push.ensures.items

pub returns-clause-circuit : goal.returns-clause-circuit
returns-clause-circuit c = IsCircuit-pushed _ _ _ c.args.statement _ c.self.view_is c.self.invariant c.requires.few c.requires.statement c.in_ok-push.ensures.items
