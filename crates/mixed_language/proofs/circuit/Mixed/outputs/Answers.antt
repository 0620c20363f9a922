use Rattle.std.proofs.Common.{◌<◌, length, arith}
use Rattle.mixed_language.proofs.TableLemmas.{outputs_next}
use Rattle.mixed_language.proofs.circuit.Mixed.outputs.Goals as goal

pub loop-at-preserved : goal.loop-at-preserved
loop-at-preserved c =
    let within : c.loop-at.at < length c.args.self.now.statements = omega arith in
    outputs_next c.args.self.now.statements _ _ c.loop-at.at within c.in_ok-push_output.ensures.added c.in_ok-push_output.ensures.one c.loop-at.invariant
