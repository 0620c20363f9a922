use Rattle.std.proofs.Common.{inl, inr}
use Rattle.any_circuit.specs.Circuits.{circuit_of}
use Rattle.motion_cli.proofs.plain.plain_of_texts.Goals as goal

pub returns : goal.returns
returns c = inl (inr (
  circuit_of c.in_ok-circuit.circuit,
  c.in_ok-circuit.ensures.ok,
  inr (c.in_ok-judge_gates.ensures.few, inr (c.in_ok-values.values, c.in_ok-values.ensures.ok, c.in_ok-evaluate_and_report.ensures)),
))
