use Rattle.std.proofs.Common.{◌≡◌, drop}
use Rattle.std.specs.Prelude.{is_none}
use Rattle.circuit_values.specs.Values.{values_of}
use Rattle.circuit_values.proofs.read.is_one_missing.Given as goal

abbrev pub invariant-loop-at : goal.invariant-loop-at
invariant-loop-at l = is_none (values_of l.asked.owner (drop l.at l.asked.inputs) (drop l.at l.given)) ≡ is_none (values_of l.asked.owner l.asked.inputs l.given)
