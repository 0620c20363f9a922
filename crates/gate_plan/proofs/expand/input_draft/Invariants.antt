use Rattle.std.proofs.Common.{◌≡◌, take}
use Rattle.gate_plan.proofs.BristolCodeLemmas.{inputs_draft}
use Rattle.gate_plan.proofs.expand.input_draft.Given as goal

abbrev pub invariant-loop-k : goal.invariant-loop-k
invariant-loop-k l = l.draft ≡ inputs_draft l.keys l.parties (take l.k l.circuit.inputs)
