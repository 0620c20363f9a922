use Rattle.std.proofs.Common.{◌<◌, length, arith}
use Rattle.mixed_language.proofs.TableLemmas.{inputs_next, inputs_all, circuit_inputs_apart}
use Rattle.mixed_language.proofs.circuit.Mixed.inputs.Goals as goal

pub loop-at-preserved : goal.loop-at-preserved
loop-at-preserved c =
    let within : c.loop-at.at < length c.args.self.now.statements = omega arith in
    inputs_next c.args.self.now.statements _ _ c.loop-at.at within c.in_ok-push_input.ensures.added c.in_ok-push_input.ensures.one c.loop-at.invariant

pub returns-clause-apart : goal.returns-clause-apart
returns-clause-apart c = circuit_inputs_apart c.args.self.now c.loop-at.table c.len-at-end.ensures.circuit (inputs_all c.args.self.now.statements c.loop-at.table c.loop-at.at (omega arith) c.loop-at.invariant)
