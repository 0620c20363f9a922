use Rattle.party_engine.specs.Rest.{AreDoneBelow}
use Rattle.party_engine.proofs.speaking.are_all_done.Given as goal

abbrev pub invariant-loop-gate : goal.invariant-loop-gate
invariant-loop-gate l = AreDoneBelow l.stages l.gate
