use Rattle.std.proofs.Common.{◌≡◌, ◌≤◌, length, take}
use Rattle.mixed_language.specs.Table.{inputs_of}
use Rattle.mixed_language.proofs.EvalLemmas.{EvaluatedTo}
use Rattle.mixed_language.proofs.evaluate.values_of.Given as goal

abbrev pub invariant-loop-at : goal.invariant-loop-at
invariant-loop-at l =
    EvaluatedTo l.circuit.statements l.inputs l.values.items l.at
    × (l.taken ≡ length (inputs_of (take l.at l.circuit.statements)))
    × (l.taken ≤ l.at)
